use Rattle.std.proofs.Common.{IsSome, true≢false, sym, subst}
use Rattle.vt_slots.proofs.SlotsLemmas.{slot_at_goes}
use Rattle.vt_slots.proofs.slots.place_there.Goals as goal

pub returns-in-Err : goal.returns-in-Err
returns-in-Err c = absurd (true≢false (sym (subst IsSome (slot_at_goes _ c.args.o c.in-Err.field-0 c.in-Err.ensures) c.requires.there)))
