-- One more object at the end of the slots: what the model holds then, and that all that holds of slots holds still.
use Rattle.std.proofs.Common.{◌≡◌, ◌≢◌, ℕ, ◌+◌, ◌<◌, ◌≤◌, List, [], ◌∷◌, ◌++◌, length, map, refl, sym, ap, subst, ◌∙◌, ◌⊎◌, inl, inr, cond, Bool, true, false, arith, Option, Some, None, option_map, option_and_then, is_some, le_of_eq}
use Rattle.std.specs.Prelude.{All}
use Rattle.std.specs.List.{filter_map, flat_map, cons_option}
use Rattle.std.proofs.lemmas.Bool.{cases_eq, or_parts}
use Rattle.std.proofs.lemmas.List.{append-nil}
use Rattle.std.proofs.lemmas.List.Concat.{flat_map-append}
use Rattle.std.proofs.lemmas.List.Elements.{All-nil, All-push, All-weaker, All-contains, filter_map-append}
use Rattle.vt_base.specs.declared.numbers.ObjId.{ObjId}
use Rattle.vt_base.specs.declared.numbers.ClassId.{ClassId}
use Rattle.vt_base.specs.declared.numbers.RefId.{RefId}
use Rattle.vt_base.specs.declared.value.Value.{Value}
use Rattle.vt_base.proofs.RowsLemmas.{ascends-none}
use Rattle.vt_model.specs.Metamodel.{Metamodel, isa}
use Rattle.vt_model.specs.Creating.{is_taken, default_value, with_default, defaults_from, created}
use Rattle.vt_model.specs.declared.metamodel.AttrInfo.{AttrInfo}
use Rattle.vt_model.specs.declared.model.Object.{Object}
use Rattle.vt_slots.specs.Values.{AttributesRise}
use Rattle.vt_slots.specs.Ends.{EndList, ObjectsRise, reference_order, objects_of, capacity_of}
use Rattle.vt_slots.specs.Slots.{slot_at, slot_named, ends_on, ends_at}
use Rattle.vt_slots.specs.declared.slot.Side.{Side}
use Rattle.vt_slots.specs.declared.slot.Side.TheVariants.{Outgoing, Incoming}
use Rattle.vt_slots.specs.declared.values.Held.{Held}
use Rattle.vt_slots.specs.declared.slot.Body.{Body}
use Rattle.vt_slots.specs.declared.slot.Slot.{Slot}
use Rattle.vt_slots.proofs.SlotsLemmas.{numbers_rise_pushed, names_differ_pushed}
use Rattle.vt_graph.specs.Room.{KeepsRoom, capacity_at, class_kept}
use Rattle.vt_graph.specs.Inside.Stored.{model_of, live_object, gone_object, gone_if_none, attribute_value, body_values, body_links, places_of}
use Rattle.vt_graph.specs.Inside.Planned.{attributes_from, attributes_had}
use Rattle.vt_graph.specs.Inside.Indexed.{IsBodyOf, IsSlot, IsIndexed}
use Rattle.vt_graph.specs.Inside.Making.{default_place, new_body}
use Rattle.vt_graph.specs.declared.plan.AttributePlan.{AttributePlan}
use Rattle.vt_graph.proofs.SlotLemmas.{same_object, slot_at_stands, slot_at_number, body_at_none, ends_at_body, ends_at_none, slot_at_push_other, slot_at_push_own, ends_at_push_other, body_at_push_own}
use Rattle.vt_graph.proofs.HadLemmas.{values_rise_in}
use Rattle.vt_graph.proofs.ObjectLemmas.{object_named_slot, gone_named_slot}
use Rattle.vt_graph.proofs.Linked.Bare.{class_kept_slot, capacity_at_ends}
use Rattle.vt_graph.proofs.Linked.Changed.{two_ended_stay}

-- ---- the values of a new object

module _ (meta : Metamodel) (c : ClassId) where
  -- its places are those of its class's attributes
  attributes_of_places : (attributes : List AttributePlan) → map (λ (h : Held). h.attribute) (map default_place attributes) ≡ map (λ (p : AttributePlan). p.attribute) attributes
  attributes_of_places [] = refl
  attributes_of_places (p ∷ attributes) = ap (λ rest. p.attribute ∷ rest) (attributes_of_places attributes)

  pub new_places : map (λ (h : Held). h.attribute) (map default_place (attributes_from meta c 0 meta.attributes)) ≡ attributes_had meta c
  new_places = attributes_of_places (attributes_from meta c 0 meta.attributes)

  pub new_values_rise : AttributesRise (map default_place (attributes_from meta c 0 meta.attributes))
  new_values_rise = values_rise_in meta c (map default_place (attributes_from meta c 0 meta.attributes)) new_places

  -- and its values are their defaults
  pub new_values : (o : ObjId) (a : ℕ) (infos : List AttrInfo) → filter_map (attribute_value o) (map default_place (attributes_from meta c a infos)) ≡ defaults_from meta c o a infos
  new_values o a [] = refl
  new_values o a (info ∷ infos) = by (isa meta c info.class) (new_values o (a + 1) infos)
    where
      value : (r : Option Value) → filter_map (attribute_value o) (map default_place (attributes_from meta c (a + 1) infos)) ≡ defaults_from meta c o (a + 1) infos
          → cons_option (option_map (λ v. record { object = o; attribute = record { 0 = a }; value = v }) r) (filter_map (attribute_value o) (map default_place (attributes_from meta c (a + 1) infos)))
          ≡ with_default o a r (defaults_from meta c o (a + 1) infos)
      value None rest = rest
      value (Some v) rest = ap (λ ts. record { object = o; attribute = record { 0 = a }; value = v } ∷ ts) rest

      by : (b : Bool) → filter_map (attribute_value o) (map default_place (attributes_from meta c (a + 1) infos)) ≡ defaults_from meta c o (a + 1) infos
          → filter_map (attribute_value o) (map default_place (cond b (record { attribute = record { 0 = a }; kind = info.kind } ∷ attributes_from meta c (a + 1) infos) (attributes_from meta c (a + 1) infos)))
          ≡ cond b (with_default o a (default_value info.kind) (defaults_from meta c o (a + 1) infos)) (defaults_from meta c o (a + 1) infos)
      by true rest = value (default_value info.kind) rest
      by false rest = rest

  pub new_body_fits : IsBodyOf meta c (new_body (attributes_from meta c 0 meta.attributes))
  new_body_fits = record {
    places = new_places;
    outgoing_rise = ascends-none reference_order;
    outgoing_objects = All-nil (λ (l : EndList). ObjectsRise l.objects);
    incoming_rise = ascends-none reference_order;
    incoming_objects = All-nil (λ (l : EndList). ObjectsRise l.objects);
  }

-- ---- a name that isn't taken

-- no slot has it
pub name_is_free : (next : ℕ) (slots : List Slot) (name : List ℕ) (meta : Metamodel) → IsIndexed meta next slots → is_taken (model_of next slots) name ≡ false → slot_named slots name ≡ None
name_is_free next slots name meta is free =
    let parts = or_parts _ _ free in
    by (slot_named slots name)
    (sym (ap is_some (object_named_slot next slots is.names_differ name)) ∙ parts.0)
    (sym (ap is_some (gone_named_slot next slots is.names_differ name)) ∙ parts.1)
  where
    of_body : (s : Slot) (b : Option Body) → is_some {T = Object} (option_map (λ (body : Body). record { number = s.number; name = s.name; class = s.class }) b) ≡ false → is_some (gone_if_none s b) ≡ false → ⊥
    of_body s None live gone = cc
    of_body s (Some body) live gone = cc

    by : (r : Option Slot) → is_some (option_and_then live_object r) ≡ false → is_some (option_and_then gone_object r) ≡ false → r ≡ None
    by None live gone = refl
    by (Some s) live gone = absurd (of_body s s.body live gone)

-- ---- the new object

module _ (meta : Metamodel) (next : ℕ) (slots : List Slot) (name : List ℕ) (c : ClassId) (number : ℕ) where
  abbrev pub new_slot : Slot
  new_slot = record { number = record { 0 = number }; name = name; class = c; body = Some (new_body (attributes_from meta c 0 meta.attributes)) }

  abbrev pub pushed : List Slot
  pushed = slots ++ new_slot ∷ []

  module _ (is : IsIndexed meta next slots) (from : next ≤ number) where
    pub all_below : All (λ s. s.number.0 < number) slots
    all_below = All-weaker (IsSlot meta next) (λ s. s.number.0 < number) (λ s each. omega (arith, each.below, from)) slots is.each

    -- it has no slot before
    no_slot : (o : ObjId) → o.0 ≡ number → slot_at slots o ≡ None
    no_slot o e = by (slot_at slots o) refl
      where
        by : (r : Option Slot) → slot_at slots o ≡ r → r ≡ None
        by None found = refl
        by (Some s) found =
            let low : s.number.0 < number = All-contains (λ t. t.number.0 < number) slots s all_below (slot_at_stands slots o s found) in
            let at : s.number.0 ≡ o.0 = ap (λ (p : ObjId). p.0) (slot_at_number slots o s found) in
            absurd (omega (arith, low, at, e))

    -- all ends stay, for it has none
    pub ends_pushed : (o : ObjId) (side : Side) → ends_at pushed o side ≡ ends_at slots o side
    ends_pushed o side = by (cases_eq o.0 number)
      where
        own : (side : Side) → ends_on side (new_body (attributes_from meta c 0 meta.attributes)) ≡ []
        own Outgoing = refl
        own Incoming = refl

        by : (o.0 ≡ number) ⊎ (o.0 ≢ number) → ends_at pushed o side ≡ ends_at slots o side
        by (inr apart) = ends_at_push_other slots new_slot o apart side
        by (inl e) =
            subst (λ p. ends_at pushed p side ≡ []) (same_object (record { 0 = number }) o (sym e))
            (ends_at_body pushed (record { 0 = number }) (new_body (attributes_from meta c 0 meta.attributes)) (body_at_push_own slots new_slot all_below) side ∙ own side)
            ∙ sym (ends_at_none slots o (body_at_none slots o (no_slot o e)) side)

    -- ---- what holds of the slots holds of them with the new one

    pub indexed_pushed : c.0 < length meta.classes → number < 1048576 → is_taken (model_of next slots) name ≡ false → IsIndexed meta (number + 1) pushed
    indexed_pushed there small free = record {
      next_in_range = omega (arith, small);
      numbers_rise = numbers_rise_pushed slots new_slot is.numbers_rise all_below;
      names_differ = names_differ_pushed slots new_slot is.names_differ (name_is_free next slots name meta is free);
      each = All-push (IsSlot meta (number + 1)) slots new_slot
          (All-weaker (IsSlot meta next) (IsSlot meta (number + 1)) (λ s each. record { class = each.class; below = omega (arith, each.below, from); body = each.body }) slots is.each)
          (record { class = there; below = omega arith; body = new_body_fits meta c });
      two_ended = two_ended_stay slots pushed (λ o side r. ap (λ ends. objects_of ends r) (ends_pushed o side)) is.two_ended;
      room = λ o side. subst (λ ends. All (λ l. length l.objects ≤ l.capacity) ends) (sym (ends_pushed o side)) (is.room o side);
    }

    -- ---- the model with the new object

    pub model_pushed : model_of (number + 1) pushed ≡ created meta (model_of next slots) name c number
    model_pushed = λ i. record { next = number + 1; live = live i; gone = gone i; values = values i; links = links i }
      where
        live : filter_map live_object pushed ≡ filter_map live_object slots ++ record { number = record { 0 = number }; name = name; class = c } ∷ []
        live = filter_map-append live_object slots (new_slot ∷ [])

        gone : filter_map gone_object pushed ≡ filter_map gone_object slots
        gone = filter_map-append gone_object slots (new_slot ∷ []) ∙ append-nil (filter_map gone_object slots)

        values : flat_map (λ (s : Slot). body_values s.number s.body) pushed ≡ flat_map (λ (s : Slot). body_values s.number s.body) slots ++ defaults_from meta c (record { 0 = number }) 0 meta.attributes
        values = flat_map-append (λ (s : Slot). body_values s.number s.body) slots (new_slot ∷ [])
            ∙ ap (λ ts. flat_map (λ (s : Slot). body_values s.number s.body) slots ++ ts) (append-nil (body_values (record { 0 = number }) (Some (new_body (attributes_from meta c 0 meta.attributes)))) ∙ new_values meta c (record { 0 = number }) 0 meta.attributes)

        links : flat_map (λ (s : Slot). body_links s.number s.body) pushed ≡ flat_map (λ (s : Slot). body_links s.number s.body) slots
        links = flat_map-append (λ (s : Slot). body_links s.number s.body) slots (new_slot ∷ []) ∙ append-nil (flat_map (λ (s : Slot). body_links s.number s.body) slots)

    -- ---- the room

    pub room_pushed : KeepsRoom (places_of slots) (places_of pushed)
    room_pushed = record { room = room; classes = classes }
      where
        room : (o : ObjId) (side : Side) (r : RefId) → capacity_at (places_of slots) o side r ≤ capacity_at (places_of pushed) o side r
        room o side r = le_of_eq (capacity_at_ends slots o side r ∙ ap (λ ends. capacity_of ends r) (sym (ends_pushed o side)) ∙ sym (capacity_at_ends pushed o side r))

        classes : (o : ObjId) (d : ClassId) → class_kept (places_of slots) o ≡ Some d → class_kept (places_of pushed) o ≡ Some d
        classes o d kept = by (cases_eq o.0 number)
          where
            by : (o.0 ≡ number) ⊎ (o.0 ≢ number) → class_kept (places_of pushed) o ≡ Some d
            by (inr apart) = class_kept_slot pushed o ∙ ap (option_map (λ (s : Slot). s.class)) (slot_at_push_other slots new_slot o apart) ∙ sym (class_kept_slot slots o) ∙ kept
            by (inl e) = let none : class_kept (places_of slots) o ≡ None = class_kept_slot slots o ∙ ap (option_map (λ (s : Slot). s.class)) (no_slot o e) in cc

    pub class_pushed : class_kept (places_of pushed) (record { 0 = number }) ≡ Some c
    class_pushed = class_kept_slot pushed (record { 0 = number }) ∙ ap (option_map (λ (s : Slot). s.class)) (slot_at_push_own slots new_slot all_below)
