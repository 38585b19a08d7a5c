-- The values of a model that slots store: which there are, and that they rise.
use Rattle.std.proofs.Common.{◌≡◌, ℕ, List, refl, sym, ap, subst, ◌∙◌, true, eq-eqb}
use Rattle.std.specs.Prelude.{Contains, find, ◌==◌, ◌&&◌, Option, Some, None, option_map, option_and_then}
use Rattle.std.specs.List.{filter_map, flat_map}
use Rattle.std.specs.List.Sorted.{IsStrictlySortedBy}
use Rattle.std.specs.Cmp.{IsTotalOrder, nat_cmp_total}
use Rattle.std.specs.Ordering.{nat_cmp, ordering_then}
use Rattle.std.specs.declared.cmp.Ordering.TheVariants.{Less, Equal}
use Rattle.std.proofs.lemmas.Bool.{and_parts}
use Rattle.std.proofs.lemmas.Cmp.{on_total, then_total, tied_itself}
use Rattle.vt_base.specs.declared.numbers.ObjId.{ObjId}
use Rattle.vt_base.specs.declared.numbers.AttrId.{AttrId}
use Rattle.vt_base.specs.declared.value.Value.{Value}
use Rattle.vt_model.specs.Metamodel.{Metamodel}
use Rattle.vt_model.specs.Assigning.{value_order, is_value_of}
use Rattle.vt_model.specs.declared.model.AttributeValue.{AttributeValue}
use Rattle.vt_facts.proofs.MemberLemmas.{Contains-nil, Contains-find}
use Rattle.vt_slots.specs.Values.{AttributesRise, attribute_order, place_of, value_in}
use Rattle.vt_slots.specs.Slots.{slot_order, NumbersRise, slot_at, slot_value}
use Rattle.vt_slots.specs.declared.values.Held.{Held}
use Rattle.vt_slots.specs.declared.slot.Body.{Body}
use Rattle.vt_slots.specs.declared.slot.Slot.{Slot}
use Rattle.vt_graph.specs.Inside.Indexed.{IsIndexed}
use Rattle.vt_graph.specs.Inside.Stored.{attribute_value, body_values, model_of}
use Rattle.vt_graph.specs.Asked.{value_at}
use Rattle.vt_facts.proofs.RisingLemmas.{find_is, rises-none}
use Rattle.vt_facts.proofs.ChosenLemmas.{Contains-flat_map, Contains-from_flat_map, Contains-filter_map, Contains-from_filter_map, rises-flat_map, rises-filter_map}
use Rattle.vt_graph.proofs.SlotLemmas.{same_object, equal_numbers, slot_at_stands, slot_at_number, slot_at_is, body_at_found}
use Rattle.vt_graph.proofs.HadLemmas.{ValuesRise, values_rise_each}

-- ---- orders

-- attributes with one number are the same
pub same_attribute : (a b : AttrId) → a.0 ≡ b.0 → a ≡ b
same_attribute a b e = ap (λ (n : ℕ). record { 0 = n }) e

attribute_order_total : IsTotalOrder attribute_order
attribute_order_total = on_total (λ (h : Held). h.attribute.0) nat_cmp_total

pub value_order_total : IsTotalOrder value_order
value_order_total = then_total (on_total (λ (t : AttributeValue). t.object.0) nat_cmp_total) (on_total (λ (t : AttributeValue). t.attribute.0) nat_cmp_total)

tied_places : (h k : Held) → h.attribute.0 ≡ k.attribute.0 → attribute_order h k ≡ Equal
tied_places h k e = subst (λ n. nat_cmp h.attribute.0 n ≡ Equal) e (tied_itself nat_cmp_total h.attribute.0)

-- values of one object and attribute are tied
pub tied_values : (t u : AttributeValue) → t.object.0 ≡ u.object.0 → t.attribute.0 ≡ u.attribute.0 → value_order t u ≡ Equal
tied_values t u object attribute =
    ap (λ n. ordering_then (nat_cmp t.object.0 n) (nat_cmp t.attribute.0 u.attribute.0)) (sym object)
    ∙ ap (λ n. ordering_then (nat_cmp t.object.0 t.object.0) (nat_cmp t.attribute.0 n)) (sym attribute)
    ∙ tied_itself value_order_total t

-- a value of an object and an attribute is of them
pub value_of_parts : (o : ObjId) (a : AttrId) (t : AttributeValue) → is_value_of o a t ≡ true → (t.object.0 ≡ o.0) × (t.attribute.0 ≡ a.0)
value_of_parts o a t is =
    let both = and_parts (t.object.0 == o.0) (t.attribute.0 == a.0) is in
    (equal_numbers t.object.0 o.0 both.0, equal_numbers t.attribute.0 a.0 both.1)

-- a value is of its object and attribute
pub own_value : (o : ObjId) (a : AttrId) (v : Value) → is_value_of o a (record { object = o; attribute = a; value = v }) ≡ true
own_value o a v = ap (λ b. b && (a.0 == a.0)) (eq-eqb o.0 o.0 refl) ∙ eq-eqb a.0 a.0 refl

-- ---- the values of one object

module _ (held : List Held) where
  -- what is found is a place of the attribute, with the value
  pub value_found : (a : AttrId) (v : Value) → value_in held a ≡ Some v → (h : Held) × Contains held h × (h.attribute ≡ a) × (h.value ≡ Some v)
  value_found a v e = by (place_of held a) refl e
    where
      by : (r : Option Held) → place_of held a ≡ r → option_and_then (λ h. h.value) r ≡ Some v → (h : Held) × Contains held h × (h.attribute ≡ a) × (h.value ≡ Some v)
      by None found e = cc
      by (Some h) found e =
          let there = Contains-find (λ x. x.attribute.0 == a.0) held h found in
          (h, there.0, same_attribute h.attribute a (equal_numbers h.attribute.0 a.0 there.1), e)

  -- a place of the attribute is found
  place_is : AttributesRise held → (h : Held) → Contains held h → place_of held h.attribute ≡ Some h
  place_is rise h there = find_is attribute_order attribute_order_total (λ x. x.attribute.0 == h.attribute.0) held rise
      (λ x y first second. tied_places x y (equal_numbers x.attribute.0 h.attribute.0 first ∙ sym (equal_numbers y.attribute.0 h.attribute.0 second)))
      h there (eq-eqb h.attribute.0 h.attribute.0 refl)

  module _ (o : ObjId) where
    pub held_stands : (a : AttrId) (v : Value) → value_in held a ≡ Some v → Contains (filter_map (attribute_value o) held) (record { object = o; attribute = a; value = v })
    held_stands a v e =
        let found = value_found a v e in
        let is : attribute_value o found.0 ≡ Some (record { object = o; attribute = a; value = v }) =
        ap (option_map (λ w. record { object = o; attribute = found.0.attribute; value = w })) found.3
        ∙ ap (λ b. Some (record { object = o; attribute = b; value = v })) found.2 in
        Contains-filter_map (attribute_value o) held found.0 (record { object = o; attribute = a; value = v }) found.1 is

    pub held_stood : AttributesRise held → (t : AttributeValue) → Contains (filter_map (attribute_value o) held) t → (t.object ≡ o) × (value_in held t.attribute ≡ Some t.value)
    held_stood rise t there = by found.0 (place_is rise found.0 found.1) found.0.value refl found.2
      where
        found : (h : Held) × Contains held h × (attribute_value o h ≡ Some t)
        found = Contains-from_filter_map (attribute_value o) held t there

        by : (h : Held) → place_of held h.attribute ≡ Some h → (r : Option Value) → h.value ≡ r → option_map (λ v. record { object = o; attribute = h.attribute; value = v }) r ≡ Some t
            → (t.object ≡ o) × (value_in held t.attribute ≡ Some t.value)
        by h at None value e = cc
        by h at (Some v) value e =
            let is : record { object = o; attribute = h.attribute; value = v } ≡ t = cc in
            let found : value_in held h.attribute ≡ Some v = ap (option_and_then (λ (x : Held). x.value)) at ∙ value in
            (sym (ap (λ (u : AttributeValue). u.object) is), subst (λ (u : AttributeValue). value_in held u.attribute ≡ Some u.value) is found)

-- what a place gives is of its object and attribute
value_parts : (o : ObjId) (h : Held) (t : AttributeValue) → attribute_value o h ≡ Some t → (t.object ≡ o) × (t.attribute ≡ h.attribute)
value_parts o h t e = by h.value e
  where
    by : (r : Option Value) → option_map (λ v. record { object = o; attribute = h.attribute; value = v }) r ≡ Some t → (t.object ≡ o) × (t.attribute ≡ h.attribute)
    by None e = cc
    by (Some v) e =
        let is : record { object = o; attribute = h.attribute; value = v } ≡ t = cc in
        (sym (ap (λ (u : AttributeValue). u.object) is), sym (ap (λ (u : AttributeValue). u.attribute) is))

pub body_value_object : (o : ObjId) (b : Option Body) (t : AttributeValue) → Contains (body_values o b) t → t.object ≡ o
body_value_object o None t there = absurd (Contains-nil t there)
body_value_object o (Some body) t there = let found = Contains-from_filter_map (attribute_value o) body.values t there in (value_parts o found.0 t found.2).0

-- they rise
body_values_rise : (o : ObjId) (b : Option Body) → ((body : Body) → b ≡ Some body → AttributesRise body.values) → IsStrictlySortedBy value_order (body_values o b)
body_values_rise o None rise = rises-none value_order
body_values_rise o (Some body) rise = rises-filter_map attribute_order value_order (attribute_value o) body.values (rise body refl) below
  where
    below : (h k : Held) (t u : AttributeValue) → attribute_order h k ≡ Less → attribute_value o h ≡ Some t → attribute_value o k ≡ Some u → value_order t u ≡ Less
    below h k t u less first second =
        let one = value_parts o h t first in
        let other = value_parts o k u second in
        ap (λ (p : ObjId). ordering_then (nat_cmp p.0 u.object.0) (nat_cmp t.attribute.0 u.attribute.0)) one.0
        ∙ ap (λ (p : ObjId). ordering_then (nat_cmp o.0 p.0) (nat_cmp t.attribute.0 u.attribute.0)) other.0
        ∙ ap (λ r. ordering_then r (nat_cmp t.attribute.0 u.attribute.0)) (tied_itself nat_cmp_total o.0)
        ∙ ap (λ (b : AttrId). nat_cmp b.0 u.attribute.0) one.1
        ∙ ap (λ (b : AttrId). nat_cmp h.attribute.0 b.0) other.1
        ∙ less

-- ---- the values of all objects

-- the values of a slot
abbrev pub slot_values : Slot → List AttributeValue
slot_values s = body_values s.number s.body

module _ (slots : List Slot) where
  -- what an object has stands among the values
  pub value_stands : (o : ObjId) (a : AttrId) (v : Value) → slot_value slots o a ≡ Some v → Contains (flat_map slot_values slots) (record { object = o; attribute = a; value = v })
  value_stands o a v e = by (slot_at slots o) refl e
    where
      in_body : (s : Slot) → slot_at slots o ≡ Some s → (b : Option Body) → s.body ≡ b → option_and_then (λ (body : Body). value_in body.values a) b ≡ Some v
          → Contains (flat_map slot_values slots) (record { object = o; attribute = a; value = v })
      in_body s found None is e = cc
      in_body s found (Some body) is e =
          let own : Contains (body_values o (Some body)) (record { object = o; attribute = a; value = v }) = held_stands body.values o a v e in
          Contains-flat_map slot_values slots s (record { object = o; attribute = a; value = v }) (slot_at_stands slots o s found)
          (subst (λ n. Contains (body_values n s.body) (record { object = o; attribute = a; value = v })) (sym (slot_at_number slots o s found))
          (subst (λ b. Contains (body_values o b) (record { object = o; attribute = a; value = v })) (sym is) own))

      by : (r : Option Slot) → slot_at slots o ≡ r → option_and_then (λ (body : Body). value_in body.values a) (option_and_then (λ (s : Slot). s.body) r) ≡ Some v
          → Contains (flat_map slot_values slots) (record { object = o; attribute = a; value = v })
      by None found e = cc
      by (Some s) found e = in_body s found s.body refl e

  module _ (rise : NumbersRise slots) (each : ValuesRise slots) where
    -- and what stands there an object has
    pub value_stood : (t : AttributeValue) → Contains (flat_map slot_values slots) t → slot_value slots t.object t.attribute ≡ Some t.value
    value_stood t there = by found.0.body refl found.2
      where
        found : (s : Slot) × Contains slots s × Contains (slot_values s) t
        found = Contains-from_flat_map slot_values slots t there

        by : (b : Option Body) → found.0.body ≡ b → Contains (body_values found.0.number b) t → slot_value slots t.object t.attribute ≡ Some t.value
        by None is own = absurd (Contains-nil t own)
        by (Some body) is own =
            let of = held_stood body.values found.0.number (each found.0 body found.1 is) t own in
            ap (option_and_then (λ (b : Body). value_in b.values t.attribute)) (body_at_found slots t.object found.0 (slot_at_is slots t.object rise found.0 found.1 (sym of.0)) ∙ is) ∙ of.1

    -- they rise
    pub slot_values_rise : IsStrictlySortedBy value_order (flat_map slot_values slots)
    slot_values_rise = rises-flat_map slot_order value_order slot_values slots rise (λ s there. body_values_rise s.number s.body (λ body is. each s body there is)) below
      where
        below : (s t : Slot) (u w : AttributeValue) → slot_order s t ≡ Less → Contains (slot_values s) u → Contains (slot_values t) w → value_order u w ≡ Less
        below s t u w less first second =
            ap (λ (p : ObjId). ordering_then (nat_cmp p.0 w.object.0) (nat_cmp u.attribute.0 w.attribute.0)) (body_value_object s.number s.body u first)
            ∙ ap (λ (p : ObjId). ordering_then (nat_cmp s.number.0 p.0) (nat_cmp u.attribute.0 w.attribute.0)) (body_value_object t.number t.body w second)
            ∙ ap (λ r. ordering_then r (nat_cmp u.attribute.0 w.attribute.0)) less

    -- the value that the model has for an attribute of an object is that of its slot
    pub value_at_slots : (next : ℕ) (o : ObjId) (a : AttrId) → value_at (model_of next slots) o a ≡ slot_value slots o a
    value_at_slots next o a = by (slot_value slots o a) refl
      where
        tied : (t u : AttributeValue) → is_value_of o a t ≡ true → is_value_of o a u ≡ true → value_order t u ≡ Equal
        tied t u first second =
            let one = value_of_parts o a t first in
            let other = value_of_parts o a u second in
            tied_values t u (one.0 ∙ sym other.0) (one.1 ∙ sym other.1)

        none : slot_value slots o a ≡ None → (r : Option AttributeValue) → find (is_value_of o a) (flat_map slot_values slots) ≡ r → option_map (λ (t : AttributeValue). t.value) r ≡ None
        none e None found = refl
        none e (Some t) found =
            let there = Contains-find (is_value_of o a) (flat_map slot_values slots) t found in
            let parts = value_of_parts o a t there.1 in
            let has : slot_value slots o a ≡ Some t.value =
            subst (λ (b : AttrId). slot_value slots o b ≡ Some t.value) (same_attribute t.attribute a parts.1)
            (subst (λ (p : ObjId). slot_value slots p t.attribute ≡ Some t.value) (same_object t.object o parts.0) (value_stood t there.0)) in
            cc

        by : (r : Option Value) → slot_value slots o a ≡ r → value_at (model_of next slots) o a ≡ r
        by None e = none e (find (is_value_of o a) (flat_map slot_values slots)) refl
        by (Some v) e = ap (option_map (λ (t : AttributeValue). t.value))
            (find_is value_order value_order_total (is_value_of o a) (flat_map slot_values slots) slot_values_rise tied
            (record { object = o; attribute = a; value = v }) (value_stands o a v e) (own_value o a v))

-- the same of the slots of a graph
pub value_at_indexed : (meta : Metamodel) (next : ℕ) (slots : List Slot) → IsIndexed meta next slots → (o : ObjId) (a : AttrId) → value_at (model_of next slots) o a ≡ slot_value slots o a
value_at_indexed meta next slots is o a = value_at_slots slots is.numbers_rise (values_rise_each meta next slots is.each) next o a
