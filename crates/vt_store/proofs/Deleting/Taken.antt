-- What is left of a model where links are dropped one by one, and values are taken one by one.
use Rattle.std.proofs.Common.{◌≡◌, List, [], ◌∷◌, refl, sym, ap, subst, ◌∙◌, Bool, true, false, reverse, inl, inr}
use Rattle.std.specs.Prelude.{◌&&◌, ◌||◌, ◌==◌, not, filter, fold, Contains, slice_get, Some}
use Rattle.std.specs.List.{list_any}
use Rattle.std.proofs.lemmas.Bool.{or_cases, or_left, or_right, and_parts, and_from, eqb-true, eq-eqb}
use Rattle.std.proofs.lemmas.List.Elements.{All-contains}
use Rattle.std.proofs.lemmas.List.Sorted.{Contains-permutation, IsPermutation-reverse, IsPermutation-sym}
use Rattle.vt_base.specs.declared.numbers.ObjId.{ObjId}
use Rattle.vt_base.specs.declared.numbers.AttrId.{AttrId}
use Rattle.vt_model.specs.Metamodel.{Metamodel, isa}
use Rattle.vt_model.specs.Model.{Model}
use Rattle.vt_model.specs.Assigning.{is_value_of}
use Rattle.vt_model.specs.Linking.{is_link}
use Rattle.vt_model.specs.Fits.{FitsAttribute}
use Rattle.vt_model.specs.Valid.{IsValid}
use Rattle.vt_model.specs.declared.metamodel.AttrInfo.{AttrInfo}
use Rattle.vt_model.specs.declared.model.AttributeValue.{AttributeValue}
use Rattle.vt_model.specs.declared.model.Object.{Object}
use Rattle.vt_model.specs.declared.model.Link.{Link}
use Rattle.vt_facts.proofs.MemberLemmas.{Contains-nil, Contains-head, Contains-behind, Contains-cons_cases, Contains-filter, Contains-from_filter}
use Rattle.vt_model.proofs.Valid.Containment.{same_object}
use Rattle.vt_store.specs.Inside.Levels.{without_link, value_taken, values_taken}
use Rattle.vt_facts.proofs.ChosenLemmas.{filter-all, filter-filter, filter-agree}
use Rattle.vt_graph.proofs.Linked.Changed.{is_link-same, is_link-itself}

-- ---- tests

-- tests that follow from one another agree
pub same_test : (a b : Bool) → (a ≡ true → b ≡ true) → (b ≡ true → a ≡ true) → a ≡ b
same_test true true there back = refl
same_test true false there back = sym (there refl)
same_test false true there back = back refl
same_test false false there back = refl

-- not one and not another
pub not_either : (a b : Bool) → (not a && not b) ≡ not (a || b)
not_either true b = refl
not_either false b = refl

module _ {X : Type 0} (p : X → Bool) where
  -- an item passes where one of the list does
  pub list_any-there : (xs : List X) (x : X) → Contains xs x → p x ≡ true → list_any p xs ≡ true
  list_any-there [] x there passes = absurd (Contains-nil x there)
  list_any-there (y ∷ ys) x there passes = elim (Contains-cons_cases y x ys there) [
    | inl is ↦ or_left (p y) (list_any p ys) (ap p is ∙ passes)
    | inr later ↦ or_right (p y) (list_any p ys) (list_any-there ys x later passes)
  ]

  -- and one of the list does where the test of all says so
  pub list_any-item : (xs : List X) → list_any p xs ≡ true → (x : X) × Contains xs x × (p x ≡ true)
  list_any-item [] passes = cc
  list_any-item (y ∷ ys) passes = elim (or_cases (p y) (list_any p ys) passes) [
    | inl first ↦ (y, Contains-head y ys, first)
    | inr later ↦ let rest = list_any-item ys later in (rest.0, Contains-behind y rest.0 ys rest.1, rest.2)
  ]

-- ---- links

-- links that were dropped one by one are all that went
dropped_each : (g : Model) (links : List Link) → fold without_link g links ≡ record g { links = filter (λ old. not (list_any (λ link. is_link link old) links)) g.links }
dropped_each g [] = ap (λ l. record g { links = l }) (sym (filter-all (λ old. true) g.links (λ _ _. refl)))
dropped_each g (link ∷ links) =
    dropped_each (without_link g link) links
    ∙ ap (λ l. record g { links = l })
    (filter-filter (λ old. not (list_any (λ l. is_link l old) links)) (λ old. not (is_link link old)) g.links
    ∙ filter-agree (λ old. not (is_link link old) && not (list_any (λ l. is_link l old) links)) (λ old. not (list_any (λ l. is_link l old) (link ∷ links))) g.links
    (λ old _. not_either (is_link link old) (list_any (λ l. is_link l old) links)))

-- the links that pass a test go, from the last to the first
pub dropped_is : (g : Model) (test : Link → Bool) (links : List Link) → links ≡ filter test g.links
    → fold without_link g (reverse links) ≡ record g { links = filter (λ link. not (test link)) g.links }
dropped_is g test links is =
    dropped_each g (reverse links)
    ∙ ap (λ l. record g { links = l })
    (filter-agree (λ old. not (list_any (λ link. is_link link old) (reverse links))) (λ link. not (test link)) g.links
    (λ old there. ap not (same_test (list_any (λ link. is_link link old) (reverse links)) (test old) (passes old) (stands old there))))
  where
    passes : (old : Link) → list_any (λ link. is_link link old) (reverse links) ≡ true → test old ≡ true
    passes old any =
        let by = list_any-item (λ link. is_link link old) (reverse links) any in
        let there = Contains-permutation (reverse links) links by.0 (IsPermutation-sym links (reverse links) (IsPermutation-reverse links)) by.1 in
        subst (λ l. test l ≡ true) (is_link-same by.0 old by.2) (Contains-from_filter test g.links by.0 (subst (λ l. Contains l by.0) is there)).1

    stands : (old : Link) → Contains g.links old → test old ≡ true → list_any (λ link. is_link link old) (reverse links) ≡ true
    stands old there passed = list_any-there (λ link. is_link link old) (reverse links) old
        (Contains-permutation links (reverse links) old (IsPermutation-reverse links) (subst (λ l. Contains l old) (sym is) (Contains-filter test g.links old there passed)))
        (is_link-itself old)

-- ---- values

-- values that were taken one by one from an object are all that went
taken_each : (g : Model) (x : ObjId) (attributes : List AttrId)
    → fold (value_taken x) g attributes ≡ record g { values = filter (λ t. not (list_any (λ a. is_value_of x a t) attributes)) g.values }
taken_each g x [] = ap (λ l. record g { values = l }) (sym (filter-all (λ t. true) g.values (λ _ _. refl)))
taken_each g x (a ∷ rest) =
    taken_each (value_taken x g a) x rest
    ∙ ap (λ l. record g { values = l })
    (filter-filter (λ t. not (list_any (λ b. is_value_of x b t) rest)) (λ t. not (is_value_of x a t)) g.values
    ∙ filter-agree (λ t. not (is_value_of x a t) && not (list_any (λ b. is_value_of x b t) rest)) (λ t. not (list_any (λ b. is_value_of x b t) (a ∷ rest))) g.values
    (λ t _. not_either (is_value_of x a t) (list_any (λ b. is_value_of x b t) rest)))

module _ (attributes : ObjId → List AttrId) where
  -- the value is one of those that an object has for its attributes
  abbrev is_taken_of : AttributeValue → ObjId → Bool
  is_taken_of t x = list_any (λ a. is_value_of x a t) (attributes x)

  -- the same for several objects
  taken_all : (g : Model) (found : List ObjId) → fold (values_taken attributes) g found ≡ record g { values = filter (λ t. not (list_any (is_taken_of t) found)) g.values }
  taken_all g [] = ap (λ l. record g { values = l }) (sym (filter-all (λ t. true) g.values (λ _ _. refl)))
  taken_all g (x ∷ rest) =
      ap (λ m. fold (values_taken attributes) m rest) (taken_each g x (attributes x))
      ∙ taken_all (record g { values = filter (λ t. not (is_taken_of t x)) g.values }) rest
      ∙ ap (λ l. record g { values = l })
      (filter-filter (λ t. not (list_any (is_taken_of t) rest)) (λ t. not (is_taken_of t x)) g.values
      ∙ filter-agree (λ t. not (is_taken_of t x) && not (list_any (is_taken_of t) rest)) (λ t. not (list_any (is_taken_of t) (x ∷ rest))) g.values
      (λ t _. not_either (is_taken_of t x) (list_any (is_taken_of t) rest)))

  -- where each of their values is one for an attribute of theirs, none is left
  pub taken_is : (g : Model) (test : ObjId → Bool) (found : List ObjId)
      → ((t : AttributeValue) → Contains g.values t → test t.object ≡ true → Contains found t.object)
      → ((x : ObjId) → Contains found x → test x ≡ true)
      → ((t : AttributeValue) → Contains g.values t → Contains (attributes t.object) t.attribute)
      → fold (values_taken attributes) g found ≡ record g { values = filter (λ t. not (test t.object)) g.values }
  taken_is g test found all only covers =
      taken_all g found
      ∙ ap (λ l. record g { values = l })
      (filter-agree (λ t. not (list_any (is_taken_of t) found)) (λ t. not (test t.object)) g.values
      (λ t there. ap not (same_test (list_any (is_taken_of t) found) (test t.object) (passes t) (stands t there))))
    where
      passes : (t : AttributeValue) → list_any (is_taken_of t) found ≡ true → test t.object ≡ true
      passes t any =
          let x = list_any-item (is_taken_of t) found any in
          let a = list_any-item (λ b. is_value_of x.0 b t) (attributes x.0) x.2 in
          let is : t.object ≡ x.0 = same_object t.object x.0 (eqb-true t.object.0 x.0.0 (and_parts (t.object.0 == x.0.0) (t.attribute.0 == a.0.0) a.2).0) in
          ap test is ∙ only x.0 x.1

      stands : (t : AttributeValue) → Contains g.values t → test t.object ≡ true → list_any (is_taken_of t) found ≡ true
      stands t there passed = list_any-there (is_taken_of t) found t.object (all t there passed)
          (list_any-there (λ a. is_value_of t.object a t) (attributes t.object) t.attribute (covers t there)
          (and_from (t.object.0 == t.object.0) (t.attribute.0 == t.attribute.0) (eq-eqb t.object.0 t.object.0 refl) (eq-eqb t.attribute.0 t.attribute.0 refl)))

-- the attributes of the classes of live objects are those of all values
pub covers_fitting : (meta : Metamodel) (g : Model) → IsValid meta g → (attributes : ObjId → List AttrId)
    → ((y : Object) (a : AttrId) (info : AttrInfo) → Contains g.live y → slice_get meta.attributes a.0 ≡ Some info → isa meta y.class info.class ≡ true → Contains (attributes y.number) a)
    → (t : AttributeValue) → Contains g.values t → Contains (attributes t.object) t.attribute
covers_fitting meta g valid attributes has t there =
    let fits = All-contains (FitsAttribute meta g.live) g.values t valid.values_fit there in
    let owner = fits.owner in
    has (record { number = t.object; name = owner.is_live.name; class = owner.own }) t.attribute fits.info owner.is_live.there fits.declared owner.below
