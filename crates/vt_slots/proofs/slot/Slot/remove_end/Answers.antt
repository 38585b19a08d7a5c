use Rattle.vt_slots.proofs.SlotsLemmas.{HaveShape_none}
use Rattle.vt_slots.proofs.slot.Slot.remove_end.Goals as goal

pub returns-in-None-clause-shape : goal.returns-in-None-clause-shape
returns-in-None-clause-shape c = rw c.in-None.is HaveShape_none
