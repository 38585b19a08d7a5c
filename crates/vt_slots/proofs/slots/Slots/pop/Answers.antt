use Rattle.vt_slots.proofs.SlotsLemmas.{kept_popped}
use Rattle.vt_slots.proofs.slots.Slots.pop.Goals as goal

pub invariant_of-self-2 : goal.invariant_of-self-2
invariant_of-self-2 c = kept_popped c.self.inside.slots.items c.pop.new.self.items c.in_ok-slot.slot _ _ c.pop-2.result c.in_ok-slot.ensures.items c.pop-2.ensures.keys c.pop-2.ensures.found c.self.invariant
