-- The slots with another next number that is above all objects.
use Rattle.std.proofs.Common.{◌≡◌, ℕ, ◌<◌, ◌≤◌, List, refl, Option, Some, None}
use Rattle.std.specs.Prelude.{All, Contains}
use Rattle.std.proofs.lemmas.List.Elements.{All-contains}
use Rattle.vt_model.specs.Metamodel.{Metamodel}
use Rattle.vt_facts.proofs.MemberLemmas.{All-from_contains}
use Rattle.vt_slots.specs.declared.slot.Body.{Body}
use Rattle.vt_slots.specs.declared.slot.Slot.{Slot}
use Rattle.vt_graph.specs.Inside.Stored.{model_of}
use Rattle.vt_graph.specs.Inside.Indexed.{IsSlot, IsIndexed}
use Rattle.vt_graph.proofs.ObjectLemmas.{object_of, gone_of, live_of_slot, gone_of_slot}

module _ (meta : Metamodel) (next n : ℕ) (slots : List Slot) (is : IsIndexed meta next slots)
    (live : All (λ o. o.number.0 < n) (model_of next slots).live) (gone : All (λ o. o.number.0 < n) (model_of next slots).gone) where
  -- each slot's number is below
  slots_below : (s : Slot) → Contains slots s → s.number.0 < n
  slots_below s there = by s.body refl
    where
      by : (b : Option Body) → s.body ≡ b → s.number.0 < n
      by None e = All-contains (λ x. x.number.0 < n) (model_of next slots).gone (gone_of s) gone (gone_of_slot next slots s there e)
      by (Some body) e = All-contains (λ x. x.number.0 < n) (model_of next slots).live (object_of s) live (live_of_slot next slots s body there e)

  pub indexed_next : n ≤ 1048576 → IsIndexed meta n slots
  indexed_next in_range = record {
    next_in_range = in_range;
    numbers_rise = is.numbers_rise;
    names_differ = is.names_differ;
    each = All-from_contains (IsSlot meta n) slots (λ s there.
        let old = All-contains (IsSlot meta next) slots s is.each there in
        record { class = old.class; below = slots_below s there; body = old.body });
    two_ended = is.two_ended;
    room = is.room;
  }
