-- The values of a model after one was put, or taken out.
use Rattle.std.proofs.Common.{◌≡◌, ◌≢◌, List, refl, true≢false, sym, ap, subst, ◌∙◌, ◌⊎◌, inl, inr, cond, arith, Bool, true, false, ne_eqb}
use Rattle.std.specs.Prelude.{Contains, filter, not, ◌==◌, Option, Some, None, IsSome, IsSomeAnd, option_map, option_and_then}
use Rattle.std.specs.List.{flat_map}
use Rattle.std.specs.List.Sorted.{IsStrictlySortedBy}
use Rattle.std.specs.BTreeSet.{insert_key}
use Rattle.std.specs.declared.cmp.Ordering.TheVariants.{Equal}
use Rattle.std.proofs.lemmas.Bool.{cases_eq, both_ways, not-true, not_from_false}
use Rattle.std.proofs.lemmas.Bool.Decides.{nat_tests}
use Rattle.std.proofs.lemmas.List.Kept.{IsStrictlySortedBy-filter}
use Rattle.vt_base.specs.declared.numbers.ObjId.{ObjId}
use Rattle.vt_base.specs.declared.numbers.AttrId.{AttrId}
use Rattle.vt_base.specs.declared.value.Value.{Value}
use Rattle.vt_model.specs.Assigning.{value_order, is_value_of}
use Rattle.vt_model.specs.declared.model.AttributeValue.{AttributeValue}
use Rattle.vt_facts.proofs.MemberLemmas.{Contains-find, Contains-filter, Contains-from_filter, Contains-insert_key_cases, Contains-insert_key_old}
use Rattle.vt_facts.proofs.OrderedLemmas.{IsStrictlySortedBy-insert_key}
use Rattle.vt_model.proofs.Valid.Defaults.{is_value_of-yes}
use Rattle.vt_slots.specs.Values.{HasPlace, place_of, value_in, put_in, with_held}
use Rattle.vt_slots.specs.Slots.{NumbersRise, slot_at, body_at, slot_value, with_value_at, with_slot_value}
use Rattle.vt_slots.specs.declared.values.Held.{Held}
use Rattle.vt_slots.specs.declared.slot.Body.{Body}
use Rattle.vt_slots.specs.declared.slot.Slot.{Slot}
use Rattle.vt_facts.proofs.RisingLemmas.{same_items, Contains-insert_key_there}
use Rattle.vt_facts.proofs.ChosenLemmas.{find-map, find-agree}
use Rattle.vt_graph.proofs.SlotLemmas.{same_object, equal_numbers, body_at_with_value_own, slot_at_with_value_other, slot_at_with_value}
use Rattle.vt_graph.proofs.HadLemmas.{ValuesRise}
use Rattle.vt_graph.proofs.ValueLemmas.{same_attribute, value_order_total, value_of_parts, slot_values, value_stands, value_stood, slot_values_rise}

-- ---- at the place of an attribute

module _ (a : AttrId) (value : Option Value) where
  pub put_in_attribute : (h : Held) → (put_in a value h).attribute ≡ h.attribute
  put_in_attribute h = elim (h.attribute.0 == a.0) as (λ b. (cond b (record h { value = value }) h).attribute ≡ h.attribute) [
    | true ↦ refl
    | false ↦ refl
  ]

  place_of_with_held : (held : List Held) (b : AttrId) → place_of (with_held held a value) b ≡ option_map (put_in a value) (place_of held b)
  place_of_with_held held b =
      find-map (λ h. h.attribute.0 == b.0) (put_in a value) held
      ∙ ap (option_map (put_in a value)) (find-agree (λ h. (put_in a value h).attribute.0 == b.0) (λ h. h.attribute.0 == b.0) held (λ h. ap (λ (c : AttrId). c.0 == b.0) (put_in_attribute h)))

  put_in_own : (h : Held) → (h.attribute.0 == a.0) ≡ true → (put_in a value h).value ≡ value
  put_in_own h is = ap (λ b. (cond b (record h { value = value }) h).value) is

  put_in_other : (h : Held) → h.attribute.0 ≢ a.0 → put_in a value h ≡ h
  put_in_other h apart = ap (λ b. cond b (record h { value = value }) h) (ne_eqb h.attribute.0 a.0 apart)

  value_in_put : (held : List Held) → HasPlace held a → value_in (with_held held a value) a ≡ value
  value_in_put held there = ap (option_and_then (λ (h : Held). h.value)) (place_of_with_held held a) ∙ by (place_of held a) refl there
    where
      by : (r : Option Held) → place_of held a ≡ r → IsSome r → option_and_then (λ (h : Held). h.value) (option_map (put_in a value) r) ≡ value
      by None found there = absurd (true≢false (sym there))
      by (Some h) found there = put_in_own h (Contains-find (λ (x : Held). x.attribute.0 == a.0) held h found).1

  value_in_other : (held : List Held) (b : AttrId) → b.0 ≢ a.0 → value_in (with_held held a value) b ≡ value_in held b
  value_in_other held b apart = ap (option_and_then (λ (h : Held). h.value)) (place_of_with_held held b) ∙ by (place_of held b) refl
    where
      by : (r : Option Held) → place_of held b ≡ r → option_and_then (λ (h : Held). h.value) (option_map (put_in a value) r) ≡ option_and_then (λ (h : Held). h.value) r
      by None found = refl
      by (Some h) found =
          let number = equal_numbers h.attribute.0 b.0 (Contains-find (λ (x : Held). x.attribute.0 == b.0) held h found).1 in
          ap (λ (k : Held). k.value) (put_in_other h (λ same. apart (sym number ∙ same)))

-- values that the order doesn't tell apart are of one object and attribute
tied_parts : (t u : AttributeValue) → value_order t u ≡ Equal → (t.object.0 ≡ u.object.0) × (t.attribute.0 ≡ u.attribute.0)
tied_parts t u e = grind (arith, nat_tests)

-- the object has a place for the attribute
abbrev pub HasPlaceAt : List Slot → ObjId → AttrId → Type 0
HasPlaceAt slots o a = IsSomeAnd (body_at slots o) (λ (body : Body). HasPlace body.values a)

module _ (slots : List Slot) (o : ObjId) (a : AttrId) (value : Option Value) where
  -- the slots afterwards
  abbrev after : List Slot
  after = with_slot_value slots o a value

  -- ---- what objects have afterwards

  body_at_own : body_at after o ≡ option_map (with_value_at a value) (body_at slots o)
  body_at_own = by (slot_at slots o) refl
    where
      by : (r : Option Slot) → slot_at slots o ≡ r → body_at after o ≡ option_map (with_value_at a value) (option_and_then (λ (s : Slot). s.body) r)
      by None found = ap (λ r. option_and_then (λ (s : Slot). s.body) r) (slot_at_with_value o a value slots o ∙ ap (option_map _) found)
      by (Some s) found = body_at_with_value_own o a value slots s found

  pub slot_value_put : HasPlaceAt slots o a → slot_value after o a ≡ value
  slot_value_put there = ap (option_and_then (λ (body : Body). value_in body.values a)) body_at_own ∙ by (body_at slots o) there
    where
      by : (b : Option Body) → IsSomeAnd b (λ (body : Body). HasPlace body.values a) → option_and_then (λ (body : Body). value_in body.values a) (option_map (with_value_at a value) b) ≡ value
      by None there = absurd there
      by (Some body) there = value_in_put a value body.values there

  pub slot_value_stays : (p : ObjId) (b : AttrId) → (p.0 ≡ o.0 → b.0 ≡ a.0 → ⊥) → slot_value after p b ≡ slot_value slots p b
  slot_value_stays p b apart = by (cases_eq p.0 o.0)
    where
      own : (r : Option Body) → b.0 ≢ a.0 → option_and_then (λ (body : Body). value_in body.values b) (option_map (with_value_at a value) r) ≡ option_and_then (λ (body : Body). value_in body.values b) r
      own None other = refl
      own (Some body) other = value_in_other a value body.values b other

      by : (p.0 ≡ o.0) ⊎ (p.0 ≢ o.0) → slot_value after p b ≡ slot_value slots p b
      by (inl same) = subst (λ (q : ObjId). slot_value after q b ≡ slot_value slots q b) (sym (same_object p o same))
          (ap (option_and_then (λ (body : Body). value_in body.values b)) body_at_own ∙ own (body_at slots o) (apart same))
      by (inr other) = ap (λ r. option_and_then (λ (body : Body). value_in body.values b) (option_and_then (λ (s : Slot). s.body) r)) (slot_at_with_value_other o a value slots p other)

  -- ---- the values of the model afterwards

  abbrev old_values : List AttributeValue
  old_values = flat_map slot_values slots

  abbrev new_values : List AttributeValue
  new_values = flat_map slot_values after

  -- those of other objects and attributes
  abbrev kept : List AttributeValue
  kept = filter (λ t. not (is_value_of o a t)) old_values

  stays : (t : AttributeValue) → is_value_of o a t ≡ false → slot_value after t.object t.attribute ≡ slot_value slots t.object t.attribute
  stays t other = slot_value_stays t.object t.attribute (λ object attribute. both_ways (is_value_of o a t) other (is_value_of-yes o a t object attribute))

  module _ (rise : NumbersRise slots) (each : ValuesRise slots) (new_rise : NumbersRise after) (new_each : ValuesRise after) (there : HasPlaceAt slots o a) where
    kept_there : (t : AttributeValue) → Contains kept t → Contains new_values t
    kept_there t stood =
        let parts = Contains-from_filter (λ u. not (is_value_of o a u)) old_values t stood in
        value_stands after t.object t.attribute t.value (stays t (not-true (is_value_of o a t) parts.1) ∙ value_stood slots rise each t parts.0)

    new_kept : (t : AttributeValue) → Contains new_values t → is_value_of o a t ≡ false → Contains kept t
    new_kept t stands other = Contains-filter (λ u. not (is_value_of o a u)) old_values t
        (value_stands slots t.object t.attribute t.value (sym (stays t other) ∙ value_stood after new_rise new_each t stands)) (not_from_false (is_value_of o a t) other)

    new_own : (t : AttributeValue) → Contains new_values t → is_value_of o a t ≡ true → value ≡ Some t.value
    new_own t stands own =
        let parts = value_of_parts o a t own in
        sym (slot_value_put there)
        ∙ ap (λ (p : ObjId). slot_value after p a) (same_object o t.object (sym parts.0))
        ∙ ap (slot_value after t.object) (same_attribute a t.attribute (sym parts.1))
        ∙ value_stood after new_rise new_each t stands

    kept_rise : IsStrictlySortedBy value_order kept
    kept_rise = IsStrictlySortedBy-filter value_order (λ t. not (is_value_of o a t)) old_values (slot_values_rise slots rise each)

    -- none of the object and the attribute
    pub values_without : value ≡ None → new_values ≡ kept
    values_without none = same_items value_order value_order_total new_values kept (slot_values_rise after new_rise new_each) kept_rise
        (λ t stands. by t stands (is_value_of o a t) refl) kept_there
      where
        by : (t : AttributeValue) → Contains new_values t → (b : Bool) → is_value_of o a t ≡ b → Contains kept t
        by t stands true own = let some : value ≡ Some t.value = new_own t stands own in cc
        by t stands false other = new_kept t stands other

    -- or the new one
    pub values_with : (v : Value) → value ≡ Some v → new_values ≡ insert_key value_order kept (record { object = o; attribute = a; value = v })
    values_with v some = same_items value_order value_order_total new_values (insert_key value_order kept new) (slot_values_rise after new_rise new_each)
        (IsStrictlySortedBy-insert_key value_order value_order_total kept new kept_rise) forth back
      where
        new : AttributeValue
        new = record { object = o; attribute = a; value = v }

        -- none that is kept has the place of the new one
        apart : (t : AttributeValue) → Contains kept t → value_order new t ≡ Equal → new ≡ t
        apart t stood tied =
            let parts = tied_parts new t tied in
            let others = Contains-from_filter (λ u. not (is_value_of o a u)) old_values t stood in
            absurd (both_ways (is_value_of o a t) (not-true (is_value_of o a t) others.1) (is_value_of-yes o a t (sym parts.0) (sym parts.1)))

        forth : (t : AttributeValue) → Contains new_values t → Contains (insert_key value_order kept new) t
        forth t stands = by (is_value_of o a t) refl
          where
            by : (b : Bool) → is_value_of o a t ≡ b → Contains (insert_key value_order kept new) t
            by true own =
                let some_value : value ≡ Some t.value = new_own t stands own in
                let v_is : v ≡ t.value = cc in
                let parts = value_of_parts o a t own in
                let is : new ≡ t = ap (λ w. record { object = o; attribute = a; value = w }) v_is
                ∙ ap (λ p. record { object = p; attribute = a; value = t.value }) (same_object o t.object (sym parts.0))
                ∙ ap (λ b. record { object = t.object; attribute = b; value = t.value }) (same_attribute a t.attribute (sym parts.1)) in
                subst (Contains (insert_key value_order kept new)) is (Contains-insert_key_there value_order new kept apart)
            by false other = Contains-insert_key_old value_order new kept t (new_kept t stands other)

        back : (t : AttributeValue) → Contains (insert_key value_order kept new) t → Contains new_values t
        back t stands = elim (Contains-insert_key_cases value_order new kept t stands) [
          | inl older ↦ kept_there t older
          | inr is ↦ subst (Contains new_values) is (value_stands after o a v (slot_value_put there ∙ some))
        ]
