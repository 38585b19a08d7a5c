use Rattle.std.proofs.Common.{IsSomeAnd, option_map, option_and_then, set, sym, ap, subst, ◌∙◌}
use Rattle.vt_slots.specs.Values.{HasPlace, value_in}
use Rattle.vt_slots.specs.Slots.{with_value_at, with_slot_value}
use Rattle.vt_slots.specs.Inside.Place.{StandsAt}
use Rattle.vt_slots.specs.declared.slot.Body.{Body}
use Rattle.vt_slots.specs.declared.slot.Slot.{Slot}
use Rattle.vt_slots.proofs.SlotsLemmas.{slot_number, kept_changed, body_before, with_slot_value_stands}
use Rattle.vt_slots.proofs.slots.Slots.put_value.Goals as goal

pub put_value-requires : goal.put_value-requires
put_value-requires c =
    let there = subst (λ slots. StandsAt slot_number c.args.o.0 slots c.place_there-i.result) c.as_slice.ensures.value c.place_there-i.ensures in
    let before = body_before _ _ c.args.o c.place_there-i.result c.index_mut.result.now c.self.view_is there c.index_mut.ensures.value in
    record { there = subst (λ found. IsSomeAnd found (λ (body : Body). HasPlace body.values c.args.a)) before c.requires.there }

pub invariant_of-self : goal.invariant_of-self
invariant_of-self c =
    let is = c.index_mut.ensures.value in
    kept_changed _ _ c.place_there-i.result c.put_value.new.self c.index_mut.result.now (ap (λ (s : Slot). s.number) c.put_value.ensures.put ∙ ap (λ (s : Slot). s.number) is) (ap (λ (s : Slot). s.name) c.put_value.ensures.put ∙ ap (λ (s : Slot). s.name) is) c.self.invariant

pub returns-clause-taken : goal.returns-clause-taken
returns-clause-taken c =
    let there = subst (λ slots. StandsAt slot_number c.args.o.0 slots c.place_there-i.result) c.as_slice.ensures.value c.place_there-i.ensures in
    let before = body_before _ _ c.args.o c.place_there-i.result c.index_mut.result.now c.self.view_is there c.index_mut.ensures.value in
    c.put_value.ensures.taken ∙ ap (option_and_then (λ (body : Body). value_in body.values c.args.a)) (sym before)

pub returns-clause-put : goal.returns-clause-put
returns-clause-put c =
    let there = subst (λ slots. StandsAt slot_number c.args.o.0 slots c.place_there-i.result) c.as_slice.ensures.value c.place_there-i.ensures in
    ap (set c.self.inside.slots.items c.place_there-i.result) c.put_value.ensures.put
    ∙ ap (λ (s : Slot). set c.self.inside.slots.items c.place_there-i.result (record s { body = option_map (with_value_at c.args.a c.args.value) s.body })) c.index_mut.ensures.value
    ∙ sym (with_slot_value_stands _ c.args.o c.place_there-i.result there c.index_mut.result.now c.args.a c.args.value)
    ∙ ap (λ slots. with_slot_value slots c.args.o c.args.a c.args.value) c.self.view_is
