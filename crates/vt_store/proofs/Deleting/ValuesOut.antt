-- The values that come out where they are taken object by object are those of the objects, in their order.
use Rattle.std.proofs.Common.{◌≡◌, List, [], ◌∷◌, ◌++◌, refl, sym, ap, ap₂, subst, ◌∙◌, Bool, true, inl, inr}
use Rattle.std.specs.Prelude.{◌==◌, not, filter, find, fold, Contains, Option, Some, None, option_map}
use Rattle.std.specs.List.{flat_map}
use Rattle.std.specs.List.Sorted.{IsStrictlySortedBy}
use Rattle.std.specs.Option.{option_to_list}
use Rattle.std.specs.Cmp.{IsTotalOrder}
use Rattle.std.specs.Ordering.{nat_cmp}
use Rattle.std.specs.declared.cmp.Ordering.{Ordering}
use Rattle.std.specs.declared.cmp.Ordering.TheVariants.{Equal}
use Rattle.std.proofs.lemmas.Bool.{and_parts, and_from, not_from_false, false_from_ne_true, eqb-true, eq-eqb}
use Rattle.std.proofs.lemmas.Cmp.{nat_cmp_total, on_total, tied_itself}
use Rattle.std.proofs.lemmas.List.Kept.{IsStrictlySortedBy-filter}
use Rattle.vt_base.specs.declared.numbers.ObjId.{ObjId}
use Rattle.vt_base.specs.declared.numbers.AttrId.{AttrId}
use Rattle.vt_model.specs.Model.{Model}
use Rattle.vt_model.specs.Assigning.{value_order, is_value_of}
use Rattle.vt_model.specs.declared.model.AttributeValue.{AttributeValue}
use Rattle.vt_facts.proofs.MemberLemmas.{Contains-nil, Contains-head, Contains-behind, Contains-cons_cases, Contains-filter, Contains-from_filter, Contains-find, find-some}
use Rattle.vt_model.proofs.Valid.Containment.{same_object}
use Rattle.vt_store.specs.Inside.Levels.{value_taken, values_taken, values_out, all_values_out}
use Rattle.vt_slots.specs.Ends.{number_order}
use Rattle.vt_store.proofs.Deleting.ListLemmas.{NoRepeats, NoRepeats-rising, rises-option, find-filter}
use Rattle.vt_graph.proofs.Linked.Ends.{number_order_total}
use Rattle.vt_facts.proofs.RisingLemmas.{tied_is, same_items}
use Rattle.vt_facts.proofs.ChosenLemmas.{Contains-flat_map, Contains-from_flat_map, rises-flat_map, flat_map-agree}
use Rattle.vt_graph.proofs.ValueLemmas.{value_order_total}

-- numbers of attributes in their order
abbrev pub attribute_order : AttrId → AttrId → Ordering
attribute_order a b = nat_cmp a.0 b.0

attribute_order_total : IsTotalOrder attribute_order
attribute_order_total = on_total (λ a. a.0) nat_cmp_total

-- equal numbers are of one attribute
same_attribute : (a b : AttrId) → a.0 ≡ b.0 → a ≡ b
same_attribute a b same = ap (λ n. record { 0 = n }) same

-- a value that passes the test of an object and an attribute is of them
pub value_of_parts : (x : ObjId) (a : AttrId) (t : AttributeValue) → is_value_of x a t ≡ true → (t.object ≡ x) × (t.attribute ≡ a)
value_of_parts x a t e =
    let parts = and_parts (t.object.0 == x.0) (t.attribute.0 == a.0) e in
    (same_object t.object x (eqb-true t.object.0 x.0 parts.0), same_attribute t.attribute a (eqb-true t.attribute.0 a.0 parts.1))

-- and the other way round
value_of_from : (t : AttributeValue) → is_value_of t.object t.attribute t ≡ true
value_of_from t = and_from (t.object.0 == t.object.0) (t.attribute.0 == t.attribute.0) (eq-eqb t.object.0 t.object.0 refl) (eq-eqb t.attribute.0 t.attribute.0 refl)

-- a list of one item or none has an item where it is the one
Contains-option : {X : Type 0} (found : Option X) (t : X) → Contains (option_to_list found) t → found ≡ Some t
Contains-option None t there = absurd (Contains-nil t there)
Contains-option (Some u) t there = elim (Contains-cons_cases u t [] there) [ inl is ↦ ap Some is | inr none ↦ absurd (Contains-nil t none) ]

-- a value that is found is made again of its object, its attribute and what it is
pub value_rebuilt : (g : Model) (x : ObjId) (a : AttrId)
    → option_map (λ v. record { object = x; attribute = a; value = v }) (option_map (λ t. t.value) (find (is_value_of x a) g.values)) ≡ find (is_value_of x a) g.values
value_rebuilt g x a = by (find (is_value_of x a) g.values) refl
  where
    by : (found : Option AttributeValue) → find (is_value_of x a) g.values ≡ found → option_map (λ v. record { object = x; attribute = a; value = v }) (option_map (λ t. t.value) found) ≡ found
    by None at = refl
    by (Some t) at =
        let parts = value_of_parts x a t (Contains-find (is_value_of x a) g.values t at).1 in
        ap Some (λ i. record { object = sym parts.0 i; attribute = sym parts.1 i; value = t.value })

-- ---- one object

-- the value of another attribute or object stays where one is taken
find-value_taken : (x y : ObjId) (a b : AttrId) (g : Model) → (y ≡ x → b ≡ a → ⊥) → find (is_value_of y b) (value_taken x g a).values ≡ find (is_value_of y b) g.values
find-value_taken x y a b g apart = find-filter (is_value_of y b) (λ t. not (is_value_of x a t)) g.values
    (λ t of. not_from_false (is_value_of x a t) (false_from_ne_true (is_value_of x a t) (λ too.
    let one = value_of_parts y b t of in
    let other = value_of_parts x a t too in
    apart (sym one.0 ∙ other.0) (sym one.1 ∙ other.1))))

-- among values that rise, an object and an attribute find their value
pub find-value_of : (g : Model) → IsStrictlySortedBy value_order g.values → (t : AttributeValue) → Contains g.values t → find (is_value_of t.object t.attribute) g.values ≡ Some t
find-value_of g rise t there =
    let found = find-some (is_value_of t.object t.attribute) g.values t there (value_of_from t) in
    let was = Contains-find (is_value_of t.object t.attribute) g.values found.0 found.1 in
    let parts = value_of_parts t.object t.attribute found.0 was.1 in
    let tied : value_order found.0 t ≡ Equal = rw (parts.0, parts.1, tied_itself nat_cmp_total t.object.0) (tied_itself nat_cmp_total t.attribute.0) in
    found.1 ∙ ap Some (tied_is value_order value_order_total g.values rise found.0 t was.0 there tied)

-- the values of an object for attributes
abbrev pub values_at : ObjId → Model → List AttrId → List AttributeValue
values_at x g attributes = flat_map (λ a. option_to_list (find (is_value_of x a) g.values)) attributes

-- they come out in turn, where no attribute comes twice
values_out-is : (x : ObjId) (g : Model) (attributes : List AttrId) → NoRepeats attributes → values_out x g attributes ≡ values_at x g attributes
values_out-is x g [] once = refl
values_out-is x g (a ∷ rest) once = ap (λ ts. option_to_list (find (is_value_of x a) g.values) ++ ts)
    (values_out-is x (value_taken x g a) rest once.1
    ∙ flat_map-agree (λ b. option_to_list (find (is_value_of x b) (value_taken x g a).values)) (λ b. option_to_list (find (is_value_of x b) g.values)) rest
    (λ b there. ap option_to_list (find-value_taken x x a b g (λ _ same. once.0 (subst (Contains rest) same there)))))

-- those of another object stay
values_at-stays : (x y : ObjId) (g : Model) (taken attributes : List AttrId) → (y ≡ x → ⊥) → values_at y (fold (value_taken x) g taken) attributes ≡ values_at y g attributes
values_at-stays x y g [] attributes differs = refl
values_at-stays x y g (a ∷ taken) attributes differs =
    values_at-stays x y (value_taken x g a) taken attributes differs
    ∙ flat_map-agree (λ b. option_to_list (find (is_value_of y b) (value_taken x g a).values)) (λ b. option_to_list (find (is_value_of y b) g.values)) attributes
    (λ b there. ap option_to_list (find-value_taken x y a b g (λ same _. differs same)))

-- each of them is a value of the object for one of the attributes
Contains-values_at : (x : ObjId) (g : Model) (attributes : List AttrId) (t : AttributeValue) → Contains (values_at x g attributes) t
    → Contains g.values t × (t.object ≡ x) × Contains attributes t.attribute
Contains-values_at x g attributes t there =
    let by = Contains-from_flat_map (λ a. option_to_list (find (is_value_of x a) g.values)) attributes t there in
    let was = Contains-find (is_value_of x by.0) g.values t (Contains-option (find (is_value_of x by.0) g.values) t by.2) in
    let parts = value_of_parts x by.0 t was.1 in
    (was.0, parts.0, subst (Contains attributes) (sym parts.1) by.1)

-- ---- several objects

module _ (attributes : ObjId → List AttrId) where
  -- the attributes of each object rise
  abbrev pub AttributesRise : List ObjId → Type 0
  AttributesRise found = (x : ObjId) → Contains found x → IsStrictlySortedBy attribute_order (attributes x)

  -- the values of objects for their attributes
  abbrev pub values_of_all : Model → List ObjId → List AttributeValue
  values_of_all g found = flat_map (λ x. values_at x g (attributes x)) found

  -- they come out in turn, where no object comes twice
  pub all_values_out-is : (g : Model) (found : List ObjId) → NoRepeats found → AttributesRise found → all_values_out attributes g found ≡ values_of_all g found
  all_values_out-is g [] once rise = refl
  all_values_out-is g (x ∷ rest) once rise = ap₂ (λ ts us. ts ++ us)
      (values_out-is x g (attributes x) (NoRepeats-rising attribute_order attribute_order_total (attributes x) (rise x (Contains-head x rest))))
      (all_values_out-is (values_taken attributes g x) rest once.1 (λ y there. rise y (Contains-behind x y rest there))
      ∙ flat_map-agree (λ y. values_at y (values_taken attributes g x) (attributes y)) (λ y. values_at y g (attributes y)) rest
      (λ y there. values_at-stays x y g (attributes x) (attributes y) (λ same. once.0 (subst (Contains rest) same there))))

  -- those of one object rise by their attributes
  values_at-rise : (x : ObjId) (g : Model) → IsStrictlySortedBy attribute_order (attributes x) → IsStrictlySortedBy value_order (values_at x g (attributes x))
  values_at-rise x g rise = rises-flat_map attribute_order value_order (λ a. option_to_list (find (is_value_of x a) g.values)) (attributes x) rise
      (λ a there. rises-option value_order (find (is_value_of x a) g.values))
      (λ a b t u below one other.
      let t_is = value_of_parts x a t (Contains-find (is_value_of x a) g.values t (Contains-option (find (is_value_of x a) g.values) t one)).1 in
      let u_is = value_of_parts x b u (Contains-find (is_value_of x b) g.values u (Contains-option (find (is_value_of x b) g.values) u other)).1 in
      rw (t_is.0, u_is.0, t_is.1, u_is.1, tied_itself nat_cmp_total x.0) below)

  -- and all rise by their objects
  values_of_all-rise : (g : Model) (found : List ObjId) → AttributesRise found → IsStrictlySortedBy number_order found → IsStrictlySortedBy value_order (values_of_all g found)
  values_of_all-rise g found rise sorted = rises-flat_map number_order value_order (λ x. values_at x g (attributes x)) found sorted
      (λ x there. values_at-rise x g (rise x there))
      (λ x y t u below one other. rw ((Contains-values_at x g (attributes x) t one).1, (Contains-values_at y g (attributes y) u other).1, below) refl)

  -- where the objects are those that pass a test, and the attributes those of all values, the values that come out are those of the objects
  pub values_out-are : (g : Model) (test : ObjId → Bool) (found : List ObjId) → AttributesRise found → IsStrictlySortedBy number_order found → IsStrictlySortedBy value_order g.values
      → ((t : AttributeValue) → Contains g.values t → test t.object ≡ true → Contains found t.object)
      → ((x : ObjId) → Contains found x → test x ≡ true)
      → ((t : AttributeValue) → Contains g.values t → Contains (attributes t.object) t.attribute)
      → all_values_out attributes g found ≡ filter (λ t. test t.object) g.values
  values_out-are g test found rise sorted ordered all only covers =
      all_values_out-is g found (NoRepeats-rising number_order number_order_total found sorted) rise
      ∙ same_items value_order value_order_total (values_of_all g found) (filter (λ t. test t.object) g.values)
      (values_of_all-rise g found rise sorted) (IsStrictlySortedBy-filter value_order (λ t. test t.object) g.values ordered) there back
    where
      there : (t : AttributeValue) → Contains (values_of_all g found) t → Contains (filter (λ t. test t.object) g.values) t
      there t stands =
          let by = Contains-from_flat_map (λ x. values_at x g (attributes x)) found t stands in
          let was = Contains-values_at by.0 g (attributes by.0) t by.2 in
          Contains-filter (λ t. test t.object) g.values t was.0 (ap test was.1 ∙ only by.0 by.1)

      back : (t : AttributeValue) → Contains (filter (λ t. test t.object) g.values) t → Contains (values_of_all g found) t
      back t stands =
          let was = Contains-from_filter (λ t. test t.object) g.values t stands in
          Contains-flat_map (λ x. values_at x g (attributes x)) found t.object t (all t was.0 was.1)
          (Contains-flat_map (λ a. option_to_list (find (is_value_of t.object a) g.values)) (attributes t.object) t.attribute t (covers t was.0)
          (subst (λ r. Contains (option_to_list r) t) (sym (find-value_of g ordered t was.0)) (Contains-head t [])))
