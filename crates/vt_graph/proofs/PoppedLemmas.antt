-- The last object taken out of the slots: what the model holds then, and that all that holds of slots holds still.
use Rattle.std.proofs.Common.{◌≡◌, ◌≢◌, ℕ, ◌<◌, ◌≤◌, ◌==◌, List, [], ◌∷◌, ◌++◌, length, filter, not, refl, sym, ap, subst, ◌∙◌, ◌⊎◌, inl, inr, cond, true, false, arith, Option, Some, None, IsSome, option_map, option_and_then, le_of_eq, eq-eqb, ne_eqb, get_or, MatchOption}
use Rattle.std.specs.Prelude.{Contains, All}
use Rattle.std.specs.List.{filter_map, flat_map, cons_option}
use Rattle.std.specs.declared.cmp.Ordering.TheVariants.{Less}
use Rattle.std.proofs.lemmas.Bool.{cases_eq, not_from_false, not_from_true}
use Rattle.std.proofs.lemmas.Option.{MatchOption-at_some}
use Rattle.std.proofs.lemmas.List.{append-nil}
use Rattle.std.proofs.lemmas.List.Concat.{flat_map-append}
use Rattle.std.proofs.lemmas.List.Elements.{All-nil, All-contains, Contains-append_left, Contains-push, Contains-push_cases, filter_map-append, filter-append}
use Rattle.vt_base.specs.declared.numbers.ObjId.{ObjId}
use Rattle.vt_base.specs.declared.numbers.ClassId.{ClassId}
use Rattle.vt_model.specs.Metamodel.{Metamodel}
use Rattle.vt_model.specs.declared.model.Object.{Object}
use Rattle.vt_model.specs.declared.model.AttributeValue.{AttributeValue}
use Rattle.vt_facts.proofs.MemberLemmas.{Contains-nil, Contains-cons_cases, All-from_contains}
use Rattle.vt_slots.specs.Ends.{objects_of, capacity_of}
use Rattle.vt_slots.specs.Slots.{slot_order, NumbersRise, slot_at, ends_at}
use Rattle.vt_slots.specs.declared.slot.Side.{Side}
use Rattle.vt_slots.specs.declared.slot.Body.{Body}
use Rattle.vt_slots.specs.declared.slot.Slot.{Slot}
use Rattle.vt_slots.proofs.PlaceLemmas.{below}
use Rattle.vt_slots.proofs.SlotsLemmas.{numbers_rise_popped, names_differ_popped}
use Rattle.vt_graph.specs.Asked.{live_at}
use Rattle.vt_graph.specs.Room.{KeepsOthersRoom}
use Rattle.vt_graph.specs.Passing.{HasNoLinks, IsLast, with_retracted}
use Rattle.vt_graph.specs.Inside.Stored.{model_of, live_object, gone_object, gone_if_none, body_values, body_links, places_of}
use Rattle.vt_graph.specs.Inside.Planned.{plan_of, ArePlans, AreListings}
use Rattle.vt_graph.specs.Inside.Indexed.{IsSlot, IsIndexed}
use Rattle.vt_graph.specs.Inside.Making.{changed_at, without_last}
use Rattle.vt_graph.specs.declared.plan.ClassPlan.{ClassPlan}
use Rattle.vt_graph.specs.Inside.Ended.{SameObjects}
use Rattle.vt_facts.proofs.RisingLemmas.{first_below, rest_rises}
use Rattle.vt_facts.proofs.ChosenLemmas.{Contains-from_flat_map, filter-all, filter-none}
use Rattle.vt_graph.proofs.SlotLemmas.{same_object, slot_at_stands, slot_at_number, body_at_none, ends_at_none, slot_at_push_other, ends_at_push_other}
use Rattle.vt_graph.proofs.ValueLemmas.{body_value_object}
use Rattle.vt_graph.proofs.ObjectLemmas.{live_at_slot, object_of, gone_of, live_of_slot, gone_of_slot, slot_of_live}
use Rattle.vt_graph.proofs.ListingLemmas.{are_listings_popped}
use Rattle.vt_graph.proofs.AppendLemmas.{plan_found}
use Rattle.vt_graph.proofs.LoneLemmas.{lone_ends}
use Rattle.vt_graph.proofs.Linked.Bare.{class_kept_slot, capacity_at_ends, ends_rise}
use Rattle.vt_graph.proofs.Linked.Changed.{two_ended_stay, links_stay}

-- ---- the last of the slots

-- those before it are below
pub below_last : (slots : List Slot) (last : Slot) → NumbersRise (slots ++ last ∷ []) → (s : Slot) → Contains slots s → s.number.0 < last.number.0
below_last slots last rise s there = below s.number.0 last.number.0 (by slots rise there)
  where
    by : (ts : List Slot) → NumbersRise (ts ++ last ∷ []) → Contains ts s → slot_order s last ≡ Less
    by [] rise there = absurd (Contains-nil s there)
    by (t ∷ ts) rise there = elim (Contains-cons_cases t s ts there) [
      | inl is ↦ subst (λ u. slot_order u last ≡ Less) is (first_below slot_order t (ts ++ last ∷ []) rise last (Contains-push ts last))
      | inr later ↦ by ts (rest_rises slot_order t (ts ++ last ∷ []) rise) later
    ]

module _ (meta : Metamodel) (next to : ℕ) (slots : List Slot) (last : Slot) (o : ObjId) where
  abbrev all : List Slot
  all = slots ++ last ∷ []

  module _ (is : IsIndexed meta next all) (live : IsSome (live_at (model_of next all) o)) (lone : HasNoLinks (model_of next all) o) (end : IsLast (model_of next all) o to) (from : to ≤ o.0) where
    -- each other object's number is below
    others_below : (s : Slot) → Contains all s → s.number.0 ≢ o.0 → s.number.0 < to
    others_below s there apart = by s.body refl
      where
        by : (b : Option Body) → s.body ≡ b → s.number.0 < to
        by None e = All-contains (λ x. x.number.0 < to) (model_of next all).gone (gone_of s) end.gone_below (gone_of_slot next all s there e)
        by (Some body) e = All-contains (λ x. x.number.0 ≢ o.0 → x.number.0 < to) (model_of next all).live (object_of s) end.live_below (live_of_slot next all s body there e) apart

    -- the object's slot is found
    own_slot : (s : Slot) × (slot_at all o ≡ Some s) × ((body : Body) × (s.body ≡ Some body))
    own_slot = by (slot_at all o) refl (subst IsSome (live_at_slot next all is.numbers_rise o) live)
      where
        of_body : (s : Slot) (b : Option Body) → s.body ≡ b → IsSome (option_map (λ (body : Body). object_of s) b) → (body : Body) × (s.body ≡ Some body)
        of_body s None e there = cc
        of_body s (Some body) e there = (body, e)

        by : (r : Option Slot) → slot_at all o ≡ r → IsSome (option_and_then live_object r) → (s : Slot) × (slot_at all o ≡ Some s) × ((body : Body) × (s.body ≡ Some body))
        by None e there = cc
        by (Some s) e there = (s, e, of_body s s.body refl there)

    -- it is the last
    own_is_last : own_slot.0 ≡ last
    own_is_last = by (Contains-push_cases slots last own_slot.0 (slot_at_stands all o own_slot.0 own_slot.1))
      where
        number : own_slot.0.number.0 ≡ o.0
        number = ap (λ (p : ObjId). p.0) (slot_at_number all o own_slot.0 own_slot.1)

        by : Contains slots own_slot.0 ⊎ (last ≡ own_slot.0) → own_slot.0 ≡ last
        by (inr same) = sym same
        by (inl before) =
            let less : own_slot.0.number.0 < last.number.0 = below_last slots last is.numbers_rise own_slot.0 before in
            let low : last.number.0 < to = others_below last (Contains-push slots last) (λ same. let no : ⊥ = omega (arith, less, number, same) in no) in
            absurd (omega (arith, less, low, number, from))

    pub last_number : last.number ≡ o
    last_number = sym (ap (λ (s : Slot). s.number) own_is_last) ∙ slot_at_number all o own_slot.0 own_slot.1

    last_body : (body : Body) × (last.body ≡ Some body)
    last_body = (own_slot.2.0, sym (ap (λ (s : Slot). s.body) own_is_last) ∙ own_slot.2.1)

    before_below : (s : Slot) → Contains slots s → s.number.0 < to
    before_below s there =
        let less : s.number.0 < last.number.0 = below_last slots last is.numbers_rise s there in
        let own : last.number.0 ≡ o.0 = ap (λ (p : ObjId). p.0) last_number in
        others_below s (Contains-append_left slots (last ∷ []) s there) (λ same. let no : ⊥ = omega (arith, less, own, same) in no)

    before_apart : (s : Slot) → Contains slots s → s.number.0 ≢ o.0
    before_apart s there same = let less = before_below s there in let no : ⊥ = omega (arith, less, from, same) in no

    -- it has no slot then
    no_slot_left : (p : ObjId) → p.0 ≡ o.0 → slot_at slots p ≡ None
    no_slot_left p e = by (slot_at slots p) refl
      where
        by : (r : Option Slot) → slot_at slots p ≡ r → r ≡ None
        by None found = refl
        by (Some s) found = absurd (before_apart s (slot_at_stands slots p s found) (ap (λ (q : ObjId). q.0) (slot_at_number slots p s found) ∙ e))

    not_last : (p : ObjId) → p.0 ≢ o.0 → p.0 ≢ last.number.0
    not_last p apart same = apart (same ∙ ap (λ (q : ObjId). q.0) last_number)

    -- all objects have the same ones at their ends
    same_objects : SameObjects all slots
    same_objects p side r = by (cases_eq p.0 o.0)
      where
        by : (p.0 ≡ o.0) ⊎ (p.0 ≢ o.0) → objects_of (ends_at slots p side) r ≡ objects_of (ends_at all p side) r
        by (inr apart) = ap (λ ends. objects_of ends r) (sym (ends_at_push_other slots last p (not_last p apart) side))
        by (inl e) =
            ap (λ ends. objects_of ends r) (ends_at_none slots p (body_at_none slots p (no_slot_left p e)) side)
            ∙ sym (subst (λ q. objects_of (ends_at all q side) r ≡ []) (same_object o p (sym e)) (lone_ends meta next all is o lone side r))

    -- each list fits in its room
    fit_popped : (p : ObjId) (side : Side) → All (λ l. length l.objects ≤ l.capacity) (ends_at slots p side)
    fit_popped p side = by (cases_eq p.0 o.0)
      where
        by : (p.0 ≡ o.0) ⊎ (p.0 ≢ o.0) → All (λ l. length l.objects ≤ l.capacity) (ends_at slots p side)
        by (inr apart) = subst (λ ends. All (λ l. length l.objects ≤ l.capacity) ends) (ends_at_push_other slots last p (not_last p apart) side) (is.room p side)
        by (inl e) = subst (λ ends. All (λ l. length l.objects ≤ l.capacity) ends) (sym (ends_at_none slots p (body_at_none slots p (no_slot_left p e)) side)) (All-nil (λ l. length l.objects ≤ l.capacity))

    -- ---- what holds of the slots holds without the last

    pub indexed_popped : IsIndexed meta to slots
    indexed_popped = record {
      next_in_range =
          let found : own_slot.0.number.0 ≡ o.0 = ap (λ (p : ObjId). p.0) (slot_at_number all o own_slot.0 own_slot.1) in
          let low = (All-contains (IsSlot meta next) all own_slot.0 is.each (slot_at_stands all o own_slot.0 own_slot.1)).below in
          omega (arith, found, low, from, is.next_in_range);
      numbers_rise = numbers_rise_popped slots last is.numbers_rise;
      names_differ = names_differ_popped slots last is.names_differ;
      each = All-from_contains (IsSlot meta to) slots (λ s there.
          let old = All-contains (IsSlot meta next) all s is.each (Contains-append_left slots (last ∷ []) s there) in
          record { class = old.class; below = before_below s there; body = old.body });
      two_ended = two_ended_stay all slots same_objects is.two_ended;
      room = fit_popped;
    }

    -- ---- the model without it

    pub model_popped : model_of to slots ≡ with_retracted (model_of next all) o to
    model_popped = λ i. record { next = to; live = live_left i; gone = gone_left i; values = values_left i; links = links_left i }
      where
        passes : (n : ℕ) → n ≢ o.0 → not (n == o.0) ≡ true
        passes n apart = not_from_false (n == o.0) (ne_eqb n o.0 apart)

        fails : (n : ℕ) → n ≡ o.0 → not (n == o.0) ≡ false
        fails n same = not_from_true (n == o.0) (eq-eqb n o.0 same)

        own : last.number.0 ≡ o.0
        own = ap (λ (p : ObjId). p.0) last_number

        live_left : filter_map live_object slots ≡ filter (λ x. not (x.number.0 == o.0)) (filter_map live_object all)
        live_left = sym (
            ap (filter (λ (x : Object). not (x.number.0 == o.0))) (filter_map-append live_object slots (last ∷ []) ∙ ap (λ b. filter_map live_object slots ++ of_body b) last_body.1)
            ∙ filter-append (λ x. not (x.number.0 == o.0)) (filter_map live_object slots) (object_of last ∷ [])
            ∙ (λ i. kept i ++ cond (fails last.number.0 own i) (object_of last ∷ []) [])
            ∙ append-nil (filter_map live_object slots)
            )
          where
            of_body : Option Body → List Object
            of_body b = cons_option (option_map (λ (body : Body). object_of last) b) []

            kept : filter (λ (x : Object). not (x.number.0 == o.0)) (filter_map live_object slots) ≡ filter_map live_object slots
            kept = filter-all (λ (x : Object). not (x.number.0 == o.0)) (filter_map live_object slots) (λ x there.
                let at = slot_of_live to slots x there in
                passes x.number.0 (λ same. before_apart at.0 at.1 (sym (ap (λ (y : Object). y.number.0) at.3) ∙ same)))

        gone_left : filter_map gone_object slots ≡ filter_map gone_object all
        gone_left = sym (
            filter_map-append gone_object slots (last ∷ [])
            ∙ ap (λ b. filter_map gone_object slots ++ cons_option (gone_if_none last b) []) last_body.1
            ∙ append-nil (filter_map gone_object slots)
            )

        values_left : flat_map (λ (s : Slot). body_values s.number s.body) slots ≡ filter (λ t. not (t.object.0 == o.0)) (flat_map (λ (s : Slot). body_values s.number s.body) all)
        values_left = sym (
            ap (filter (λ (t : AttributeValue). not (t.object.0 == o.0))) (flat_map-append (λ (s : Slot). body_values s.number s.body) slots (last ∷ []))
            ∙ filter-append (λ t. not (t.object.0 == o.0)) (flat_map (λ (s : Slot). body_values s.number s.body) slots) (body_values last.number last.body ++ [])
            ∙ (λ i. kept i ++ dropped i)
            ∙ append-nil (flat_map (λ (s : Slot). body_values s.number s.body) slots)
            )
          where
            kept : filter (λ (t : AttributeValue). not (t.object.0 == o.0)) (flat_map (λ (s : Slot). body_values s.number s.body) slots) ≡ flat_map (λ (s : Slot). body_values s.number s.body) slots
            kept = filter-all (λ (t : AttributeValue). not (t.object.0 == o.0)) (flat_map (λ (s : Slot). body_values s.number s.body) slots) (λ t there.
                let at = Contains-from_flat_map (λ (s : Slot). body_values s.number s.body) slots t there in
                passes t.object.0 (λ same. before_apart at.0 at.1 (sym (ap (λ (p : ObjId). p.0) (body_value_object at.0.number at.0.body t at.2)) ∙ same)))

            dropped : filter (λ (t : AttributeValue). not (t.object.0 == o.0)) (body_values last.number last.body ++ []) ≡ []
            dropped = ap (filter (λ (t : AttributeValue). not (t.object.0 == o.0))) (append-nil (body_values last.number last.body))
                ∙ filter-none (λ (t : AttributeValue). not (t.object.0 == o.0)) (body_values last.number last.body) (λ t there.
                fails t.object.0 (ap (λ (p : ObjId). p.0) (body_value_object last.number last.body t there) ∙ own))

        links_left : flat_map (λ (s : Slot). body_links s.number s.body) slots ≡ flat_map (λ (s : Slot). body_links s.number s.body) all
        links_left = links_stay all slots same_objects is.numbers_rise (ends_rise meta next all is) (numbers_rise_popped slots last is.numbers_rise) (ends_rise meta to slots indexed_popped)

    -- ---- the room

    pub room_popped : KeepsOthersRoom o (places_of all) (places_of slots)
    room_popped = record {
      room = λ p side r apart. le_of_eq (capacity_at_ends all p side r ∙ ap (λ ends. capacity_of ends r) (ends_at_push_other slots last p (not_last p apart) side) ∙ sym (capacity_at_ends slots p side r));
      classes = λ p c apart kept.
          class_kept_slot slots p ∙ ap (option_map (λ (s : Slot). s.class)) (sym (slot_at_push_other slots last p (not_last p apart))) ∙ sym (class_kept_slot all p) ∙ kept;
    }

-- what holds once the last object is taken out
pub record IsPopped (meta : Metamodel) (next to : ℕ) (old new : List Slot) (o : ObjId) : Type 0 where
  pub indexed : IsIndexed meta to new
  pub model : model_of to new ≡ with_retracted (model_of next old) o to
  pub room : KeepsOthersRoom o (places_of old) (places_of new)

pub is_popped : (meta : Metamodel) (next to : ℕ) (old new : List Slot) (last : Slot) (o : ObjId) → old ≡ new ++ last ∷ [] → IsIndexed meta next old
    → IsSome (live_at (model_of next old) o) → HasNoLinks (model_of next old) o → IsLast (model_of next old) o to → to ≤ o.0 → IsPopped meta next to old new o
is_popped meta next to old new last o is = subst Becomes (sym is) (λ indexed live lone end from. record {
  indexed = indexed_popped meta next to new last o indexed live lone end from;
  model = model_popped meta next to new last o indexed live lone end from;
  room = room_popped meta next to new last o indexed live lone end from;
})
  where
    Becomes : List Slot → Type 0
    Becomes slots = IsIndexed meta next slots → IsSome (live_at (model_of next slots) o) → HasNoLinks (model_of next slots) o → IsLast (model_of next slots) o to → to ≤ o.0 → IsPopped meta next to slots new o

-- the slots before the last is popped
pub sliced : (old new : List Slot) (last : Option Slot) (s : Slot) → last ≡ Some s → MatchOption last ((old ≡ []) × (new ≡ [])) (λ t. old ≡ new ++ t ∷ []) → old ≡ new ++ s ∷ []
sliced old new last s is popped = MatchOption-at_some ((old ≡ []) × (new ≡ [])) (λ t. old ≡ new ++ t ∷ []) s is popped

-- the plan of the last one's class
pub last_planned : (meta : Metamodel) (next : ℕ) (plans : List ClassPlan) (old new : List Slot) (s : Slot) (i : ℕ) (p : ClassPlan) → old ≡ new ++ s ∷ [] → IsIndexed meta next old → ArePlans meta plans
    → i ≡ s.class.0 → p ≡ get_or plans i p → p ≡ plan_of meta s.class
last_planned meta next plans old new s i p is indexed are at found =
    plan_found meta plans s.class i p are
    (All-contains (IsSlot meta next) (new ++ s ∷ []) s (subst (All (IsSlot meta next)) is indexed.each) (Contains-push new s)).class at found

-- the listings without the last one
pub listings_popped : (meta : Metamodel) (old new : List Slot) (s : Slot) (p : ClassPlan) (above : List ClassId) (listings now : List (List ObjId)) → old ≡ new ++ s ∷ [] → AreListings meta old listings
    → p ≡ plan_of meta s.class → above ≡ p.above → now ≡ changed_at without_last above listings → AreListings meta new now
listings_popped meta old new s p above listings now is are planned had changed =
    subst (AreListings meta new) (sym (changed ∙ ap (λ classes. changed_at without_last classes listings) (had ∙ ap (λ (q : ClassPlan). q.above) planned)))
    (are_listings_popped meta new s listings (subst (λ slots. AreListings meta slots listings) is are))
