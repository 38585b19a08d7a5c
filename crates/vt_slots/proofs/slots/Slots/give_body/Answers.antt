use Rattle.std.proofs.Common.{Some, set, sym, ap, subst, ◌∙◌}
use Rattle.vt_slots.specs.Slots.{with_body}
use Rattle.vt_slots.specs.Inside.Place.{StandsAt}
use Rattle.vt_slots.specs.declared.slot.Slot.{Slot}
use Rattle.vt_slots.proofs.SlotsLemmas.{slot_number, kept_changed, with_body_stands}
use Rattle.vt_slots.proofs.slots.Slots.give_body.Goals as goal

pub invariant_of-self : goal.invariant_of-self
invariant_of-self c =
    let is = c.index_mut.ensures.value in
    kept_changed _ _ c.place_there-i.result (record c.index_mut.result.now { body = Some c.args.body }) c.index_mut.result.now (ap (λ (s : Slot). s.number) is) (ap (λ (s : Slot). s.name) is) c.self.invariant

pub returns : goal.returns
returns c =
    let there = subst (λ slots. StandsAt slot_number c.args.o.0 slots c.place_there-i.result) c.as_slice.ensures.value c.place_there-i.ensures in
    ap (λ (s : Slot). set c.self.inside.slots.items c.place_there-i.result (record s { body = Some c.args.body })) c.index_mut.ensures.value
    ∙ sym (with_body_stands _ c.args.o c.place_there-i.result there c.index_mut.result.now (Some c.args.body))
    ∙ ap (λ slots. with_body slots c.args.o (Some c.args.body)) c.self.view_is
