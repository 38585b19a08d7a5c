use Rattle.std.proofs.Common.{None, get_or, set, sym, ap, subst, ◌∙◌}
use Rattle.vt_slots.specs.Slots.{body_at, with_body}
use Rattle.vt_slots.specs.Inside.Place.{StandsAt, GoesAt}
use Rattle.vt_slots.specs.declared.slot.Slot.{Slot}
use Rattle.vt_slots.proofs.SlotsLemmas.{slot_number, kept_changed, body_at_stands, with_body_stands, body_at_goes, with_body_goes}
use Rattle.vt_slots.proofs.slots.Slots.take_body.Goals as goal

pub invariant_of-self : goal.invariant_of-self
invariant_of-self c =
    let is = c.index_mut.ensures.value in
    kept_changed _ _ c.in-Ok.i (record c.index_mut.result.now { body = c.take.new.self }) c.index_mut.result.now (ap (λ (s : Slot). s.number) is) (ap (λ (s : Slot). s.name) is) c.self.invariant

pub returns-in-Ok-clause-taken : goal.returns-in-Ok-clause-taken
returns-in-Ok-clause-taken c =
    let there = subst (λ slots. StandsAt slot_number c.args.o.0 slots c.in-Ok.i) c.as_slice.ensures.value c.in-Ok.ensures in
    c.take.ensures.value ∙ ap (λ (s : Slot). s.body) c.index_mut.ensures.value
    ∙ sym (body_at_stands _ c.args.o c.in-Ok.i there c.index_mut.result.now)
    ∙ ap (λ slots. body_at slots c.args.o) c.self.view_is

pub returns-in-Ok-clause-left : goal.returns-in-Ok-clause-left
returns-in-Ok-clause-left c =
    let there = subst (λ slots. StandsAt slot_number c.args.o.0 slots c.in-Ok.i) c.as_slice.ensures.value c.in-Ok.ensures in
    let d = c.index_mut.result.now in
    ap (λ (s : Slot). set c.self.inside.slots.items c.in-Ok.i (record s { body = c.take.new.self })) c.index_mut.ensures.value
    ∙ ap (λ body. set c.self.inside.slots.items c.in-Ok.i (record (get_or c.self.inside.slots.items c.in-Ok.i d) { body = body })) c.take.ensures.after
    ∙ sym (with_body_stands _ c.args.o c.in-Ok.i there d None)
    ∙ ap (λ slots. with_body slots c.args.o None) c.self.view_is

pub returns-in-Err-clause-taken : goal.returns-in-Err-clause-taken
returns-in-Err-clause-taken c =
    let out = subst (λ slots. GoesAt slot_number c.args.o.0 slots c.in-Err.field-0) (c.as_slice.ensures.value ∙ c.self.view_is) c.in-Err.ensures in
    sym (body_at_goes c.args.self.now c.args.o c.in-Err.field-0 out)

pub returns-in-Err-clause-left : goal.returns-in-Err-clause-left
returns-in-Err-clause-left c =
    let out = subst (λ slots. GoesAt slot_number c.args.o.0 slots c.in-Err.field-0) (c.as_slice.ensures.value ∙ c.self.view_is) c.in-Err.ensures in
    sym (with_body_goes c.args.self.now c.args.o c.in-Err.field-0 out None)
