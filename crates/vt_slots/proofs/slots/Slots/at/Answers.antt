use Rattle.std.proofs.Common.{slice_get, sym, ap, subst, ◌∙◌}
use Rattle.vt_slots.specs.Inside.Place.{StandsAt, GoesAt}
use Rattle.vt_slots.proofs.SlotsLemmas.{slot_number, slot_at_place, slot_at_goes}
use Rattle.vt_slots.proofs.slots.Slots.at.Goals as goal

pub returns-in-Ok : goal.returns-in-Ok
returns-in-Ok c =
    let there = subst (λ slots. StandsAt slot_number c.args.o.0 slots c.in-Ok.i) (c.as_slice.ensures.value ∙ c.self.view_is) c.in-Ok.ensures in
    let got = c.slot_in.ensures ∙ ap (λ slots. slice_get slots c.in-Ok.i) (c.as_slice-in-Ok.ensures.value ∙ c.self.view_is) in
    got ∙ slot_at_place c.args.self.now c.args.o c.in-Ok.i there

pub returns-in-Err : goal.returns-in-Err
returns-in-Err c =
    let out = subst (λ slots. GoesAt slot_number c.args.o.0 slots c.in-Err.field-0) (c.as_slice.ensures.value ∙ c.self.view_is) c.in-Err.ensures in
    sym (slot_at_goes c.args.self.now c.args.o c.in-Err.field-0 out)
