-- The values of an object, by the places that a store answers and by the list of all values.
use Rattle.std.proofs.Common.{◌≡◌, ◌==◌, ◌&&◌, List, refl, sym, ap, subst, ◌∙◌, Bool, true, eq-eqb}
use Rattle.std.specs.Prelude.{find, Contains, Option, Some, None, option_map}
use Rattle.std.specs.List.{filter_map}
use Rattle.std.specs.List.Sorted.{IsStrictlySortedBy}
use Rattle.std.specs.Cmp.{nat_cmp_total}
use Rattle.std.specs.Ordering.{nat_cmp, ordering_then}
use Rattle.std.specs.declared.cmp.Ordering.TheVariants.{Less, Equal}
use Rattle.std.proofs.lemmas.Cmp.{tied_itself}
use Rattle.std.proofs.lemmas.List.Kept.{IsStrictlySortedBy-filter}
use Rattle.vt_base.specs.declared.numbers.ObjId.{ObjId}
use Rattle.vt_base.specs.declared.numbers.AttrId.{AttrId}
use Rattle.vt_base.specs.declared.value.Value.{Value}
use Rattle.vt_model.specs.Metamodel.{Metamodel}
use Rattle.vt_model.specs.Model.{Model}
use Rattle.vt_model.specs.Assigning.{value_order, is_value_of}
use Rattle.vt_model.specs.Valid.{IsValid}
use Rattle.vt_model.specs.declared.model.AttributeValue.{AttributeValue}
use Rattle.vt_facts.proofs.MemberLemmas.{Contains-filter, Contains-from_filter, Contains-find}
use Rattle.vt_slots.specs.Values.{AttributesRise, attribute_order, value_in}
use Rattle.vt_slots.specs.declared.values.Held.{Held}
use Rattle.vt_graph.specs.Asked.{value_at}
use Rattle.vt_graph.specs.Inside.Stored.{attribute_value}
use Rattle.vt_facts.proofs.RisingLemmas.{find_is, same_items}
use Rattle.vt_facts.proofs.ChosenLemmas.{rises-filter_map}
use Rattle.vt_graph.proofs.SlotLemmas.{same_object, equal_numbers}
use Rattle.vt_graph.proofs.ValueLemmas.{value_order_total, tied_values, value_of_parts, held_stands, held_stood}
use Rattle.vt_model_json.specs.Dump.{values_of}

-- the values that stand in places of an object
abbrev pub values_in : ObjId → List Held → List AttributeValue
values_in o held = filter_map (attribute_value o) held

-- what a place gives is of its object and attribute
value_parts : (o : ObjId) (h : Held) (t : AttributeValue) → attribute_value o h ≡ Some t → (t.object ≡ o) × (t.attribute ≡ h.attribute)
value_parts o h t e = by h.value e
  where
    by : (r : Option Value) → option_map (λ v. record { object = o; attribute = h.attribute; value = v }) r ≡ Some t → (t.object ≡ o) × (t.attribute ≡ h.attribute)
    by None e = cc
    by (Some v) e =
        let is : record { object = o; attribute = h.attribute; value = v } ≡ t = cc in
        (sym (ap (λ (u : AttributeValue). u.object) is), sym (ap (λ (u : AttributeValue). u.attribute) is))

-- they rise
values_in_rise : (o : ObjId) (held : List Held) → AttributesRise held → IsStrictlySortedBy value_order (values_in o held)
values_in_rise o held rise = rises-filter_map attribute_order value_order (attribute_value o) held rise below
  where
    below : (h k : Held) (t u : AttributeValue) → attribute_order h k ≡ Less → attribute_value o h ≡ Some t → attribute_value o k ≡ Some u → value_order t u ≡ Less
    below h k t u less first second =
        let one = value_parts o h t first in
        let other = value_parts o k u second in
        ap (λ (p : ObjId). ordering_then (nat_cmp p.0 u.object.0) (nat_cmp t.attribute.0 u.attribute.0)) one.0
        ∙ ap (λ (p : ObjId). ordering_then (nat_cmp o.0 p.0) (nat_cmp t.attribute.0 u.attribute.0)) other.0
        ∙ ap (λ r. ordering_then r (nat_cmp t.attribute.0 u.attribute.0)) (tied_itself nat_cmp_total o.0)
        ∙ ap (λ (b : AttrId). nat_cmp b.0 u.attribute.0) one.1
        ∙ ap (λ (b : AttrId). nat_cmp h.attribute.0 b.0) other.1
        ∙ less

module _ (meta : Metamodel) (g : Model) (valid : IsValid meta g) (o : ObjId) where
  -- a value that the object has stands among all values
  stands : (t : AttributeValue) → t.object ≡ o → value_at g o t.attribute ≡ Some t.value → Contains g.values t
  stands t is e = by (find (is_value_of o t.attribute) g.values) refl e
    where
      by : (r : Option AttributeValue) → find (is_value_of o t.attribute) g.values ≡ r → option_map (λ u. u.value) r ≡ Some t.value → Contains g.values t
      by None found e = cc
      by (Some u) found e =
          let there = Contains-find (is_value_of o t.attribute) g.values u found in
          let parts = value_of_parts o t.attribute u there.1 in
          let object : u.object.0 ≡ t.object.0 = parts.0 ∙ ap (λ (p : ObjId). p.0) (sym is) in
          let value : u.value ≡ t.value = cc in
          let same : u ≡ t = λ i. record { object = record { 0 = object i }; attribute = record { 0 = parts.1 i }; value = value i } in
          subst (Contains g.values) same there.0

  -- and a value of the object that stands there it has
  stood : (t : AttributeValue) → Contains g.values t → t.object ≡ o → value_at g o t.attribute ≡ Some t.value
  stood t there is = ap (option_map (λ (u : AttributeValue). u.value))
      (find_is value_order value_order_total (is_value_of o t.attribute) g.values valid.values_rise tied t there own)
    where
      tied : (u w : AttributeValue) → is_value_of o t.attribute u ≡ true → is_value_of o t.attribute w ≡ true → value_order u w ≡ Equal
      tied u w first second =
          let one = value_of_parts o t.attribute u first in
          let other = value_of_parts o t.attribute w second in
          tied_values u w (one.0 ∙ sym other.0) (one.1 ∙ sym other.1)

      own : is_value_of o t.attribute t ≡ true
      own = ap (λ b. b && (t.attribute.0 == t.attribute.0)) (eq-eqb t.object.0 o.0 (ap (λ (p : ObjId). p.0) is)) ∙ eq-eqb t.attribute.0 t.attribute.0 refl

  -- the values in the object's places are its values of the list
  pub held_values : (held : List Held) → ((a : AttrId) → value_in held a ≡ value_at g o a) → AttributesRise held → values_in o held ≡ values_of g o
  held_values held same rise = same_items value_order value_order_total (values_in o held) (values_of g o)
      (values_in_rise o held rise) (IsStrictlySortedBy-filter value_order is_own g.values valid.values_rise) forth back
    where
      is_own : AttributeValue → Bool
      is_own t = t.object.0 == o.0

      forth : (t : AttributeValue) → Contains (values_in o held) t → Contains (values_of g o) t
      forth t there =
          let of = held_stood held o rise t there in
          Contains-filter is_own g.values t (stands t of.0 (sym (same t.attribute) ∙ of.1)) (eq-eqb t.object.0 o.0 (ap (λ (p : ObjId). p.0) of.0))

      back : (t : AttributeValue) → Contains (values_of g o) t → Contains (values_in o held) t
      back t there =
          let parts = Contains-from_filter is_own g.values t there in
          let is = same_object t.object o (equal_numbers t.object.0 o.0 parts.1) in
          subst (λ (p : ObjId). Contains (values_in o held) (record { object = p; attribute = t.attribute; value = t.value })) (sym is)
          (held_stands held o t.attribute t.value (same t.attribute ∙ stood t parts.0 is))
