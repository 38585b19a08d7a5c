-- The objects of a valid model are created one after the other, in rising order of number.
use Rattle.std.proofs.Common.{◌≡◌, ℕ, ◌+◌, List, [], ◌∷◌, ◌++◌, map, refl, sym, ap, subst, ◌∙◌, append_assoc, append-nil, arith, true, false}
use Rattle.std.specs.Prelude.{◌<◌, ◌≤◌, ◌||◌, max, find, slice_get, nat_le, All, Contains, IsSome, IsSomeAnd, is_some, Option, Some, None, Ok, option_map, unwrap_or}
use Rattle.std.specs.Option.{option_map_or}
use Rattle.std.specs.List.Sorted.{IsStrictlySortedBy}
use Rattle.std.specs.declared.cmp.Ordering.TheVariants.{Less}
use Rattle.std.proofs.lemmas.Bool.Decides.{nat_tests}
use Rattle.std.proofs.lemmas.List.Elements.{All-append, All-contains, Contains-append_left, Contains-append_right}
use Rattle.std.proofs.lemmas.Map.Keys.{sorted_tail}
use Rattle.vt_base.specs.declared.numbers.ClassId.{ClassId}
use Rattle.vt_base.specs.declared.value.Value.{Value}
use Rattle.vt_model.specs.Metamodel.{Metamodel, isa, class_named}
use Rattle.vt_facts.specs.Names.{is_name}
use Rattle.vt_model.specs.Model.{Model, object_named, gone_named}
use Rattle.vt_model.specs.Creating.{is_abstract, is_taken, is_reserved, default_value, defaults_from, created}
use Rattle.vt_model.specs.Effect.{effect}
use Rattle.vt_model.specs.Fits.{IsLiveOf}
use Rattle.vt_model.specs.Sound.{IsSound}
use Rattle.vt_model.specs.Valid.{IsValid, IsConcrete, object_order}
use Rattle.vt_model.specs.declared.metamodel.ClassInfo.{ClassInfo}
use Rattle.vt_model.specs.declared.metamodel.AttrInfo.{AttrInfo}
use Rattle.vt_model.specs.declared.model.Object.{Object}
use Rattle.vt_model.specs.declared.model.GoneObject.{GoneObject}
use Rattle.vt_model.specs.declared.model.AttributeValue.{AttributeValue}
use Rattle.vt_model.specs.declared.change.Change.{Change}
use Rattle.vt_model.specs.declared.change.Change.TheVariants.{Create}
use Rattle.vt_facts.proofs.MemberLemmas.{Contains-head, Contains-find}
use Rattle.vt_model.proofs.Valid.{IsValid-effect}
use Rattle.vt_model.proofs.Valid.Defaults.{All-defaults_from}
use Rattle.vt_model.proofs.Valid.Names.{same_name}
use Rattle.vt_model_json.specs.Dump.{class_name}
use Rattle.vt_dump_law.proofs.Made.{Makes}
use Rattle.vt_dump_law.proofs.Lists.{below_head}
use Rattle.vt_dump_law.proofs.Names.{object_named-live}

-- the name of each class finds it
abbrev pub HasClassNames : Metamodel → Type 0
HasClassNames meta = (c : ClassId) (info : ClassInfo) → slice_get meta.classes c.0 ≡ Some info → class_named meta info.name ≡ Some c

-- the change that creates an object
abbrev pub creation : Metamodel → Object → Change
creation meta o = Create o.name (class_name meta o.class) (Some o.number.0)

-- the value is one of an attribute with a default, which its object's class has
pub record HasDefault (meta : Metamodel) (live : List Object) (t : AttributeValue) : Type 0 where
  pub info : AttrInfo
  pub declared : slice_get meta.attributes t.attribute.0 ≡ Some info
  pub owner : IsLiveOf meta live t.object info.class
  pub some : IsSome (default_value info.kind)

-- ---- one object

-- a creation that passes each test is made
create_made : (meta : Metamodel) (h : Model) (name class : List ℕ) (n : ℕ) (c : ClassId)
    → class_named meta class ≡ Some c → is_abstract meta (Some c) ≡ false → is_taken h name ≡ false → max n h.next ≡ n → is_reserved name n ≡ false → nat_le 1048576 n ≡ false
    → effect meta h (Create name class (Some n)) ≡ Ok (created meta h name c n)
create_made meta h name class n c named concrete fresh number free few = rw (named, concrete, fresh, number, free, few) refl

-- the greater of two numbers
max-left : (m n : ℕ) → n ≤ m → max m n ≡ m
max-left m n most = omega arith

-- a number below the most passes
leb-above : (n : ℕ) → n < 1048576 → nat_le 1048576 n ≡ false
leb-above n below = grind (arith, nat_tests)

-- what comes later has a greater number
pub object_order-Less : (o p : Object) → object_order o p ≡ Less → o.number.0 < p.number.0
object_order-Less o p less = grind (arith, nat_tests)

-- a model with the first objects of another one, whose values are defaults
pub record HasFront (meta : Metamodel) (live : List Object) (front : List Object) (h : Model) : Type 0 where
  pub objects : h.live ≡ front
  pub gone : h.gone ≡ []
  pub links : h.links ≡ []
  pub valid : IsValid meta h
  pub defaults : All (HasDefault meta live) h.values

-- such a model, in which the other objects were created
pub record ObjectsMade (meta : Metamodel) (live : List Object) (todo : List Object) (h : Model) : Type 0 where
  pub after : Model
  pub made : Makes meta h (map (creation meta) todo) after
  pub has : HasFront meta live live after

module _ (meta : Metamodel) (sound : IsSound meta) (classes : HasClassNames meta) (g : Model) (valid : IsValid meta g) where
  module _ (front : List Object) (o : Object) (rest : List Object) (all : front ++ o ∷ rest ≡ g.live) (h : Model) (has : HasFront meta g.live front h) (next : h.next ≤ o.number.0) where
    -- the object is the model's
    live : Contains g.live o
    live = subst (λ l. Contains l o) all (Contains-append_right front (o ∷ rest) o (Contains-head o rest))

    -- its class isn't abstract, and its class's name finds it
    concrete : (class_named meta (class_name meta o.class) ≡ Some o.class) × (is_abstract meta (Some o.class) ≡ false)
    concrete = by (slice_get meta.classes o.class.0) refl (All-contains (IsConcrete meta) g.live o valid.classes_concrete live)
      where
        by : (i : Option ClassInfo) → slice_get meta.classes o.class.0 ≡ i → IsSomeAnd i (λ info. info.is_abstract ≡ false)
            → (class_named meta (class_name meta o.class) ≡ Some o.class) × (is_abstract meta (Some o.class) ≡ false)
        by None at whole = absurd whole
        by (Some info) at whole = (
          ap (λ i. class_named meta (unwrap_or (option_map (λ (x : ClassInfo). x.name) i) [])) at ∙ classes o.class info at,
          ap (λ i. option_map_or (λ (x : ClassInfo). x.is_abstract) i false) at ∙ whole,
        )

    -- its name is free
    unnamed : object_named h o.name ≡ None
    unnamed = by (object_named h o.name) refl
      where
        by : (p : Option Object) → object_named h o.name ≡ p → p ≡ None
        by None e = refl
        by (Some p) e =
            let found = Contains-find (λ p. is_name p.name o.name) h.live p e in
            let early : Contains g.live p = subst (λ l. Contains l p) all (Contains-append_left front (o ∷ rest) p (subst (λ l. Contains l p) has.objects found.0)) in
            let named : object_named g p.name ≡ Some o = ap (object_named g) (same_name p.name o.name found.1) ∙ object_named-live meta g valid o live in
            let itself : object_named g p.name ≡ Some p = object_named-live meta g valid p early in
            let same : p ≡ o = cc in
            let below : p.number.0 < h.next = All-contains (λ q. q.number.0 < h.next) h.live p has.valid.numbers_below found.0 in
            let number : p.number.0 ≡ o.number.0 = ap (λ (q : Object). q.number.0) same in
            absurd (omega (arith, below, number, next))

    fresh : is_taken h o.name ≡ false
    fresh = ap (λ p. is_some p || is_some (gone_named h o.name)) unnamed ∙ ap (λ l. is_some (find (λ (p : GoneObject). is_name p.name o.name) l)) has.gone

    effect-creation : effect meta h (creation meta o) ≡ Ok (created meta h o.name o.class o.number.0)
    effect-creation =
        let below : o.number.0 < g.next = All-contains (λ p. p.number.0 < g.next) g.live o valid.numbers_below live in
        create_made meta h o.name (class_name meta o.class) o.number.0 o.class concrete.0 concrete.1 fresh (max-left o.number.0 h.next next)
        (All-contains (λ p. is_reserved p.name p.number.0 ≡ false) g.live o valid.names_free live)
        (leb-above o.number.0 (omega (arith, below, valid.next_in_range)))

    -- the new values are defaults
    defaults-new : All (HasDefault meta g.live) (defaults_from meta o.class o.number 0 meta.attributes)
    defaults-new = All-defaults_from meta o.class o.number (HasDefault meta g.live) 0 meta.attributes each
      where
        each : (k m : ℕ) (info : AttrInfo) (w : Value) → m ≡ 0 + k → slice_get meta.attributes k ≡ Some info → isa meta o.class info.class ≡ true → default_value info.kind ≡ Some w
            → HasDefault meta g.live (record { object = o.number; attribute = record { 0 = m }; value = w })
        each k m info w is at class default =
            let here : k ≡ m = omega (arith, is) in
            record {
              info = info;
              declared = subst (λ i. slice_get meta.attributes i ≡ Some info) here at;
              owner = record { own = o.class; is_live = record { name = o.name; there = live }; below = class };
              some = subst IsSome (sym default) refl;
            }

    HasFront-created : HasFront meta g.live (front ++ o ∷ []) (created meta h o.name o.class o.number.0)
    HasFront-created = record {
      objects = ap (λ l. l ++ o ∷ []) has.objects;
      gone = has.gone;
      links = has.links;
      valid = IsValid-effect meta h (created meta h o.name o.class o.number.0) (creation meta o) sound has.valid tt effect-creation;
      defaults = All-append (HasDefault meta g.live) h.values (defaults_from meta o.class o.number 0 meta.attributes) has.defaults defaults-new;
    }

  -- ---- all objects that are left

  pub make_objects : (todo front : List Object) → front ++ todo ≡ g.live → IsStrictlySortedBy object_order todo → (h : Model) → HasFront meta g.live front h
      → ((o : Object) → Contains todo o → h.next ≤ o.number.0) → ObjectsMade meta g.live todo h
  make_objects [] front all rise h has above = record { after = h; made = refl; has = subst (λ l. HasFront meta g.live l h) (sym (append-nil front) ∙ all) has }
  make_objects (o ∷ todo) front all rise h has above =
      let next = above o (Contains-head o todo) in
      let rest = make_objects todo (front ++ o ∷ []) (append_assoc front (o ∷ []) todo ∙ all) (sorted_tail object_order o todo rise)
      (created meta h o.name o.class o.number.0) (HasFront-created front o todo all h has next)
      (λ p there. let less = object_order-Less o p (below_head object_order o todo rise p there) in omega (arith, less)) in
      record { after = rest.after; made = (created meta h o.name o.class o.number.0, effect-creation front o todo all h has next, rest.made); has = rest.has }
