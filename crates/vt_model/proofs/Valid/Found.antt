-- What names find: live objects, classes, and the attributes of a class.
use Rattle.std.proofs.Common.{◌≡◌, ℕ, List, [], ◌∷◌, length, refl, sym, subst, cond, Bool, true, false}
use Rattle.std.specs.Prelude.{nat_lt, find, position, Contains, IsSomeAnd, slice_get, Option, Some, None, option_map, option_and_then}
use Rattle.std.specs.Option.{option_map_or}
use Rattle.std.proofs.lemmas.Bool.{and_parts, lt-ltb}
use Rattle.std.proofs.lemmas.List.Elements.{Contains-append_left, Contains-append_right, Contains-push}
use Rattle.std.proofs.lemmas.Option.{same_Some}
use Rattle.vt_base.specs.declared.numbers.ClassId.{ClassId}
use Rattle.vt_base.specs.declared.numbers.AttrId.{AttrId}
use Rattle.vt_base.specs.declared.value.Kind.{Kind}
use Rattle.vt_model.specs.Metamodel.{Metamodel, isa, class_named, feature, or_reference, is_attribute_of, is_reference_of}
use Rattle.vt_facts.specs.Names.{is_name}
use Rattle.vt_model.specs.Model.{Model, object_named}
use Rattle.vt_model.specs.Creating.{is_abstract}
use Rattle.vt_model.specs.Assigning.{attribute_of, kind_asked, is_literal, literal_named}
use Rattle.vt_model.specs.Fits.{IsLive}
use Rattle.vt_model.specs.declared.metamodel.EnumInfo.{EnumInfo}
use Rattle.vt_model.specs.declared.metamodel.ClassInfo.{ClassInfo}
use Rattle.vt_model.specs.declared.metamodel.AttrInfo.{AttrInfo}
use Rattle.vt_model.specs.declared.metamodel.Feature.{Feature}
use Rattle.vt_model.specs.declared.model.Object.{Object}
use Rattle.vt_facts.proofs.PositionLemmas.{IsAt, IsAt-position}

-- ---- in lists

-- what a search gives stands in the list
pub Contains-find : {X : Type 0} (p : X → Bool) (xs : List X) (x : X) → find p xs ≡ Some x → Contains xs x
Contains-find p [] x e = cc
Contains-find p (y ∷ ys) x e =
    elim (p y) as (λ b. cond b (Some y) (find p ys) ≡ Some x → Contains (y ∷ ys) x) [
      | true ↦ λ same. let is : y ≡ x = cc in subst (λ z. Contains (y ∷ ys) z) is (Contains-append_left (y ∷ []) ys y (Contains-push [] y))
      | false ↦ λ later. Contains-append_right (y ∷ []) ys x (Contains-find p ys x later)
    ] e

-- ---- objects

-- an object that a name finds is live
pub IsLive-object_named : (g : Model) (name : List ℕ) (o : Object) → object_named g name ≡ Some o → IsLive g.live o.number o.class
IsLive-object_named g name o e = record { name = o.name; there = Contains-find (λ o. is_name o.name name) g.live o e }

-- ---- classes

-- a class that a name finds is there, and a test that it isn't abstract says so
pub IsSomeAnd-class_named : (meta : Metamodel) (name : List ℕ) (c : ClassId) → class_named meta name ≡ Some c → is_abstract meta (Some c) ≡ false
    → IsSomeAnd (slice_get meta.classes c.0) (λ info. info.is_abstract ≡ false)
IsSomeAnd-class_named meta name c e concrete = by (position (λ i. is_name i.name name) meta.classes) refl e
  where
    by : (r : Option ℕ) → position (λ i. is_name i.name name) meta.classes ≡ r → option_map (λ n. record { 0 = n }) r ≡ Some c
        → IsSomeAnd (slice_get meta.classes c.0) (λ info. info.is_abstract ≡ false)
    by None found e = cc
    by (Some n) found e =
        let at = IsAt-position (λ i. is_name i.name name) meta.classes n found in
        let is : n ≡ c.0 = cc in
        let there : slice_get meta.classes c.0 ≡ Some at.item = subst (λ i. slice_get meta.classes i ≡ Some at.item) is at.there in
        let whole : at.item.is_abstract ≡ false = subst (λ s. option_map_or (λ (info : ClassInfo). info.is_abstract) s false ≡ false) there concrete in
        subst (λ s. IsSomeAnd s (λ info. info.is_abstract ≡ false)) (sym there) whole

-- ---- attributes

-- a class has an attribute
pub record HasAttribute (meta : Metamodel) (c : ClassId) (a : AttrId) : Type 0 where
  pub info : AttrInfo
  pub declared : slice_get meta.attributes a.0 ≡ Some info
  pub below : isa meta c info.class ≡ true

-- an attribute that a name finds in a class
pub HasAttribute-feature : (meta : Metamodel) (c : ClassId) (name : List ℕ) (a : AttrId) → attribute_of (feature meta c name) ≡ Some a → HasAttribute meta c a
HasAttribute-feature meta c name a e =
    let at = IsAt-position (is_attribute_of meta c name) meta.attributes a.0 (place (position (is_attribute_of meta c name) meta.attributes) (position (is_reference_of meta c name) meta.references) e) in
    record { info = at.item; declared = at.there; below = (and_parts (isa meta c at.item.class) (is_name at.item.name name) at.passes).0 }
  where
    place : (p r : Option ℕ) → attribute_of (or_reference p r) ≡ Some a → p ≡ Some a.0
    place (Some i) r e = cc
    place None None e = cc
    place None (Some i) e = cc

-- the kind that is asked for is that of the attribute
pub kind_asked-declared : (meta : Metamodel) (f : Option Feature) (a : AttrId) (info : AttrInfo) (k : Kind)
    → attribute_of f ≡ Some a → slice_get meta.attributes a.0 ≡ Some info → kind_asked meta f ≡ Some k → info.kind ≡ k
kind_asked-declared meta f a info k found declared asked =
    let of_a = subst (λ s. option_map (λ (i : AttrInfo). i.kind) (option_and_then (λ (b : AttrId). slice_get meta.attributes b.0) s) ≡ Some k) found asked in
    same_Some info.kind k (subst (λ s. option_map (λ (i : AttrInfo). i.kind) s ≡ Some k) declared of_a)

-- ---- literals

-- a literal that a text names is one of the enum
pub is_literal-literal_named : (meta : Metamodel) (e : ℕ) (name : List ℕ) (l : ℕ) → literal_named meta e name ≡ Some l → is_literal meta e l ≡ true
is_literal-literal_named meta e name l found = by (slice_get meta.enums e) found
  where
    by : (r : Option EnumInfo) → option_and_then (λ enum. position (λ literal. is_name literal name) enum.literals) r ≡ Some l
        → option_map_or (λ enum. nat_lt l (length enum.literals)) r false ≡ true
    by None found = cc
    by (Some enum) found = lt-ltb l (length enum.literals) (IsAt.in_range (IsAt-position (λ literal. is_name literal name) enum.literals l found))
