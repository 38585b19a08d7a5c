use Rattle.std.proofs.Common.{length, ◌≤◌}
use Rattle.std.proofs.lemmas.List.Elements.{All-nil}
use Rattle.vt_base.proofs.RowsLemmas.{ascends-none}
use Rattle.vt_slots.specs.Ends.{EndList, ObjectsRise, reference_order}
use Rattle.vt_slots.proofs.ends.Ends.new.Goals as goal

pub invariant_of-result : goal.invariant_of-result
invariant_of-result c = rw c.new.ensures.items (
  ascends-none reference_order,
  All-nil (λ (l : EndList). ObjectsRise l.objects),
  All-nil (λ (l : EndList). length l.objects ≤ l.capacity),
)
