use Rattle.std.proofs.Common.{refl}
use Rattle.vt_base.proofs.RowsLemmas.{ascends-none}
use Rattle.vt_slots.specs.Slots.{slot_order}
use Rattle.vt_slots.proofs.slots.Slots.new.Goals as goal

pub invariant_of-result : goal.invariant_of-result
invariant_of-result c = rw (c.new.ensures.items, c.new-2.ensures.empty) (ascends-none slot_order, refl, refl)
