use Rattle.std.proofs.Common.{map, slice_set, refl, sym, ap, subst, subst₂, ◌∙◌}
use Rattle.vt_slots.specs.Ends.{DropsEnd, SameRoom, HaveShape}
use Rattle.vt_slots.specs.Slots.{bare, OtherEndsStay}
use Rattle.vt_slots.specs.Inside.Place.{StandsAt, GoesAt}
use Rattle.vt_slots.specs.Inside.Shape.{slot_ends}
use Rattle.vt_slots.specs.declared.slot.Slot.{Slot}
use Rattle.vt_slots.proofs.SlotsLemmas.{slot_number, HaveShape_none, kept_changed, bare_stays, ends_before, ends_changed, OtherEndsStay_changed, ends_at_goes}
use Rattle.vt_slots.proofs.slots.Slots.remove_end.Goals as goal

pub invariant_of-self : goal.invariant_of-self
invariant_of-self c =
    let alike = c.remove_end.ensures.bare ∙ ap bare c.index_mut.ensures.value in
    kept_changed _ _ c.in-Ok.i c.remove_end.new.self c.index_mut.result.now (ap (λ (s : Slot). s.number) alike) (ap (λ (s : Slot). s.name) alike) c.self.invariant

pub returns-in-Ok-clause-bare : goal.returns-in-Ok-clause-bare
returns-in-Ok-clause-bare c =
    let alike = c.remove_end.ensures.bare ∙ ap bare c.index_mut.ensures.value in
    bare_stays _ c.in-Ok.i c.remove_end.new.self c.index_mut.result.now alike ∙ ap (map bare) c.self.view_is

pub returns-in-Ok-clause-there : goal.returns-in-Ok-clause-there
returns-in-Ok-clause-there c =
    let there = subst (λ slots. StandsAt slot_number c.args.o.0 slots c.in-Ok.i) c.as_slice.ensures.value c.in-Ok.ensures in
    let alike = c.remove_end.ensures.bare ∙ ap bare c.index_mut.ensures.value in
    let before = ends_before _ _ c.args.o c.in-Ok.i c.index_mut.result.now c.args.side c.self.view_is there c.index_mut.ensures.value in
    let after = ends_changed _ c.args.o c.in-Ok.i there c.index_mut.result.now c.remove_end.new.self alike c.args.side in
    subst₂ (λ old new. DropsEnd old new c.args.r c.args.other) (sym before) (sym after) c.remove_end.ensures.there

pub returns-in-Ok-clause-others : goal.returns-in-Ok-clause-others
returns-in-Ok-clause-others c =
    let there = subst (λ slots. StandsAt slot_number c.args.o.0 slots c.in-Ok.i) c.as_slice.ensures.value c.in-Ok.ensures in
    let alike = c.remove_end.ensures.bare ∙ ap bare c.index_mut.ensures.value in
    subst (λ old. OtherEndsStay old (slice_set c.self.inside.slots.items c.in-Ok.i c.remove_end.new.self) c.args.o c.args.side) c.self.view_is
    (OtherEndsStay_changed _ c.args.o c.in-Ok.i there c.index_mut.result.now c.remove_end.new.self alike c.args.side
    (λ t apart. c.remove_end.ensures.others t apart ∙ ap (slot_ends t) c.index_mut.ensures.value))

pub returns-in-Ok-clause-room : goal.returns-in-Ok-clause-room
returns-in-Ok-clause-room c =
    let there = subst (λ slots. StandsAt slot_number c.args.o.0 slots c.in-Ok.i) c.as_slice.ensures.value c.in-Ok.ensures in
    let alike = c.remove_end.ensures.bare ∙ ap bare c.index_mut.ensures.value in
    let before = ends_before _ _ c.args.o c.in-Ok.i c.index_mut.result.now c.args.side c.self.view_is there c.index_mut.ensures.value in
    let after = ends_changed _ c.args.o c.in-Ok.i there c.index_mut.result.now c.remove_end.new.self alike c.args.side in
    subst₂ SameRoom (sym before) (sym after) c.remove_end.ensures.room

pub returns-in-Ok-clause-shape : goal.returns-in-Ok-clause-shape
returns-in-Ok-clause-shape c =
    let there = subst (λ slots. StandsAt slot_number c.args.o.0 slots c.in-Ok.i) c.as_slice.ensures.value c.in-Ok.ensures in
    let alike = c.remove_end.ensures.bare ∙ ap bare c.index_mut.ensures.value in
    let after = ends_changed _ c.args.o c.in-Ok.i there c.index_mut.result.now c.remove_end.new.self alike c.args.side in
    subst HaveShape (sym after) c.remove_end.ensures.shape

-- ---- an object that has no slot

pub returns-in-Err-clause-there : goal.returns-in-Err-clause-there
returns-in-Err-clause-there c =
    let out = subst (λ slots. GoesAt slot_number c.args.o.0 slots c.in-Err.field-0) (c.as_slice.ensures.value ∙ c.self.view_is) c.in-Err.ensures in
    let none = ends_at_goes c.args.self.now c.args.o c.in-Err.field-0 out c.args.side in
    subst (λ ends. DropsEnd ends ends c.args.r c.args.other) (sym none) (record { there = refl; others = λ s apart. refl })

pub returns-in-Err-clause-shape : goal.returns-in-Err-clause-shape
returns-in-Err-clause-shape c =
    let out = subst (λ slots. GoesAt slot_number c.args.o.0 slots c.in-Err.field-0) (c.as_slice.ensures.value ∙ c.self.view_is) c.in-Err.ensures in
    subst HaveShape (sym (ends_at_goes c.args.self.now c.args.o c.in-Err.field-0 out c.args.side)) HaveShape_none
