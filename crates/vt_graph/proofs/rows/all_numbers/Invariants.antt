use Rattle.std.proofs.Common.{◌≡◌, ◌++◌, map, drop}
use Rattle.vt_slots.specs.declared.slot.Slot.{Slot}
use Rattle.vt_graph.proofs.rows.all_numbers.Given as goal

-- what is out, and what the rest gives, is what the whole gives
abbrev pub invariant-loop-slot : goal.invariant-loop-slot
invariant-loop-slot l = l.numbers ++ map (λ (s : Slot). s.number) (drop l.slot-index l.slots) ≡ map (λ (s : Slot). s.number) l.slots
