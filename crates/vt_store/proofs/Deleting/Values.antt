-- The values of an object, read off its places, and those of all that goes.
use Rattle.std.proofs.Common.{◌≡◌, List, refl, sym, ap, subst, ◌∙◌}
use Rattle.std.specs.Prelude.{◌==◌, filter, find, Contains, Option, Some, None, option_map}
use Rattle.std.specs.List.{filter_map, flat_map}
use Rattle.std.specs.List.Sorted.{IsStrictlySortedBy}
use Rattle.std.specs.declared.cmp.Ordering.TheVariants.{Less}
use Rattle.std.proofs.lemmas.Bool.{eqb-true, eq-eqb}
use Rattle.std.proofs.lemmas.Cmp.{nat_cmp_total, tied_itself}
use Rattle.std.proofs.lemmas.List.Kept.{IsStrictlySortedBy-filter}
use Rattle.vt_base.specs.declared.numbers.ObjId.{ObjId}
use Rattle.vt_base.specs.declared.numbers.AttrId.{AttrId}
use Rattle.vt_base.specs.declared.value.Value.{Value}
use Rattle.vt_model.specs.Metamodel.{Metamodel}
use Rattle.vt_model.specs.Model.{Model}
use Rattle.vt_model.specs.Assigning.{value_order, is_value_of, with_default_value}
use Rattle.vt_model.specs.Containing.{is_inside}
use Rattle.vt_model.specs.Valid.{IsValid}
use Rattle.vt_model.specs.declared.model.AttributeValue.{AttributeValue}
use Rattle.vt_facts.proofs.MemberLemmas.{Contains-filter, Contains-from_filter, Contains-find}
use Rattle.vt_model.proofs.Valid.Containment.{same_object}
use Rattle.vt_slots.specs.Values.{AttributesRise, attribute_order, value_in}
use Rattle.vt_slots.specs.declared.values.Held.{Held}
use Rattle.vt_graph.specs.Held.{Held as Graph}
use Rattle.vt_graph.specs.Asked.{value_at}
use Rattle.vt_graph.specs.Having.{HasAttribute}
use Rattle.vt_facts.proofs.ChosenLemmas.{rises-filter_map, Contains-flat_map, Contains-from_flat_map, rises-flat_map}
use Rattle.vt_graph.proofs.ValueLemmas.{held_stands, held_stood, value_order_total}
use Rattle.vt_store.specs.Inside.Levels.{numbers, objects_inside, value_of, values_of}
use Rattle.vt_slots.specs.Ends.{number_order}
use Rattle.vt_store.proofs.Deleting.Steps.{found_of_value, inside_found, found_rises}
use Rattle.vt_store.proofs.Deleting.ValuesOut.{value_of_parts, find-value_of}
use Rattle.vt_facts.proofs.RisingLemmas.{same_items}

-- ---- one object

-- what a place gives is of its object and attribute
value_parts : (x : ObjId) (h : Held) (t : AttributeValue) → value_of x h ≡ Some t → (t.object ≡ x) × (t.attribute ≡ h.attribute)
value_parts x h t e = by h.value e
  where
    by : (r : Option Value) → option_map (λ v. record { object = x; attribute = h.attribute; value = v }) r ≡ Some t → (t.object ≡ x) × (t.attribute ≡ h.attribute)
    by None e = cc
    by (Some v) e =
        let is : record { object = x; attribute = h.attribute; value = v } ≡ t = cc in
        (sym (ap (λ (u : AttributeValue). u.object) is), sym (ap (λ (u : AttributeValue). u.attribute) is))

-- values of one object are ordered by their attributes
values_below : (x : ObjId) (h k : Held) (t u : AttributeValue) → attribute_order h k ≡ Less → value_of x h ≡ Some t → value_of x k ≡ Some u → value_order t u ≡ Less
values_below x h k t u below first second =
    let one = value_parts x h t first in
    let other = value_parts x k u second in
    rw (one.0, other.0, one.1, other.1, tied_itself nat_cmp_total x.0) below

-- values of one object and attribute, and of one value, are one
same_value : (t u : AttributeValue) → t.object ≡ u.object → t.attribute ≡ u.attribute → t.value ≡ u.value → t ≡ u
same_value t u object attribute value = λ i. record { object = object i; attribute = attribute i; value = value i }

-- a value that is found stands
value_stands : (g : Model) (x : ObjId) (t : AttributeValue) → t.object ≡ x → value_at g x t.attribute ≡ Some t.value → Contains g.values t
value_stands g x t of at = by (find (is_value_of x t.attribute) g.values) refl at
  where
    by : (r : Option AttributeValue) → find (is_value_of x t.attribute) g.values ≡ r → option_map (λ u. u.value) r ≡ Some t.value → Contains g.values t
    by None found at = cc
    by (Some u) found at =
        let was = Contains-find (is_value_of x t.attribute) g.values u found in
        let parts = value_of_parts x t.attribute u was.1 in
        let value : u.value ≡ t.value = cc in
        subst (Contains g.values) (same_value u t (parts.0 ∙ sym of) parts.1 value) was.0

-- the places of an object give its values
pub values_held : (g : Model) (x : ObjId) (held : List Held) → IsStrictlySortedBy value_order g.values → AttributesRise held → ((a : AttrId) → value_in held a ≡ value_at g x a)
    → filter_map (value_of x) held ≡ values_of g x
values_held g x held rise places exact = same_items value_order value_order_total (filter_map (value_of x) held) (values_of g x)
    (rises-filter_map attribute_order value_order (value_of x) held places (values_below x))
    (IsStrictlySortedBy-filter value_order (λ t. t.object.0 == x.0) g.values rise) there back
  where
    there : (t : AttributeValue) → Contains (filter_map (value_of x) held) t → Contains (values_of g x) t
    there t stands =
        let was = held_stood held x places t stands in
        Contains-filter (λ u. u.object.0 == x.0) g.values t (value_stands g x t was.0 (sym (exact t.attribute) ∙ was.1))
        (eq-eqb t.object.0 x.0 (ap (λ p. p.0) was.0))

    back : (t : AttributeValue) → Contains (values_of g x) t → Contains (filter_map (value_of x) held) t
    back t stands =
        let was = Contains-from_filter (λ u. u.object.0 == x.0) g.values t stands in
        let of = same_object t.object x (eqb-true t.object.0 x.0 was.1) in
        let found : value_at g t.object t.attribute ≡ Some t.value = ap (option_map (λ u. u.value)) (find-value_of g rise t was.0) in
        subst (λ p. Contains (filter_map (value_of x) held) (record { object = p; attribute = t.attribute; value = t.value })) (sym of)
        (held_stands held x t.attribute t.value (exact t.attribute ∙ ap (λ p. value_at g p t.attribute) (sym of) ∙ found))

-- what an object has by its class stays where a value is taken
pub had_still : (g h : Graph) (x p : ObjId) (a b : AttrId) → h.meta ≡ g.meta → h.model ≡ with_default_value g.model x a None → HasAttribute g.meta g.model p b → HasAttribute h.meta h.model p b
had_still g h x p a b meta model was = subst (λ m. HasAttribute m h.model p b) (sym meta) (subst (λ k. HasAttribute g.meta k p b) (sym model)
    (record { class = was.class; info = was.info; live = was.live; declared = was.declared; has = was.has }))

-- ---- all that goes

module _ (meta : Metamodel) (g : Model) (o : ObjId) (valid : IsValid meta g) (found : List ObjId) (is : found ≡ numbers (objects_inside meta g o)) where
  -- the values of the objects that are found are those inside
  pub values_inside_are : flat_map (values_of g) found ≡ filter (λ t. is_inside meta g t.object o) g.values
  values_inside_are = same_items value_order value_order_total (flat_map (values_of g) found) (filter (λ t. is_inside meta g t.object o) g.values)
      (rises-flat_map number_order value_order (values_of g) found (found_rises meta g o valid found is)
      (λ x there. IsStrictlySortedBy-filter value_order (λ t. t.object.0 == x.0) g.values valid.values_rise)
      (λ x y t u below one other. rw ((own x t one).1, (own y u other).1, below) refl))
      (IsStrictlySortedBy-filter value_order (λ t. is_inside meta g t.object o) g.values valid.values_rise) there back
    where
      own : (x : ObjId) (t : AttributeValue) → Contains (values_of g x) t → Contains g.values t × (t.object ≡ x)
      own x t stands =
          let was = Contains-from_filter (λ u. u.object.0 == x.0) g.values t stands in
          (was.0, same_object t.object x (eqb-true t.object.0 x.0 was.1))

      there : (t : AttributeValue) → Contains (flat_map (values_of g) found) t → Contains (filter (λ t. is_inside meta g t.object o) g.values) t
      there t stands =
          let by = Contains-from_flat_map (values_of g) found t stands in
          let was = own by.0 t by.2 in
          Contains-filter (λ t. is_inside meta g t.object o) g.values t was.0 (ap (λ p. is_inside meta g p o) was.1 ∙ inside_found meta g o valid found is by.0 by.1)

      back : (t : AttributeValue) → Contains (filter (λ t. is_inside meta g t.object o) g.values) t → Contains (flat_map (values_of g) found) t
      back t stands =
          let was = Contains-from_filter (λ t. is_inside meta g t.object o) g.values t stands in
          Contains-flat_map (values_of g) found t.object t (found_of_value meta g o valid found is t was.0 was.1)
          (Contains-filter (λ u. u.object.0 == t.object.0) g.values t was.0 (eq-eqb t.object.0 t.object.0 refl))
