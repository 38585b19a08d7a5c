use Rattle.std.proofs.Common.{◌<◌, length, map, slice_set, IsSome, sym, ap, subst, subst₂, ◌∙◌}
use Rattle.std.proofs.lemmas.Result.{on_ok_weaker, on_err_weaker}
use Rattle.vt_slots.specs.Ends.{AddsEnd, SameEnds, KeepsRoom, HaveShape, objects_of, capacity_of}
use Rattle.vt_slots.specs.Slots.{bare, OtherEndsStay}
use Rattle.vt_slots.specs.Inside.Place.{StandsAt}
use Rattle.vt_slots.specs.Inside.Shape.{slot_ends}
use Rattle.vt_slots.specs.declared.slot.Slot.{Slot}
use Rattle.vt_slots.proofs.SlotsLemmas.{slot_number, kept_changed, bare_stays, body_before, ends_before, ends_changed, OtherEndsStay_changed}
use Rattle.vt_slots.proofs.slots.Slots.insert_end.Goals as goal

pub insert_end-requires : goal.insert_end-requires
insert_end-requires c =
    let there = subst (λ slots. StandsAt slot_number c.args.o.0 slots c.place_there-i.result) c.as_slice.ensures.value c.place_there-i.ensures in
    let before = body_before _ _ c.args.o c.place_there-i.result c.index_mut.result.now c.self.view_is there c.index_mut.ensures.value in
    record { live = subst IsSome before c.requires.live }

pub invariant_of-self : goal.invariant_of-self
invariant_of-self c =
    let alike = c.insert_end.ensures.bare ∙ ap bare c.index_mut.ensures.value in
    kept_changed _ _ c.place_there-i.result c.insert_end.new.self c.index_mut.result.now (ap (λ (s : Slot). s.number) alike) (ap (λ (s : Slot). s.name) alike) c.self.invariant

pub returns-clause-bare : goal.returns-clause-bare
returns-clause-bare c =
    let alike = c.insert_end.ensures.bare ∙ ap bare c.index_mut.ensures.value in
    bare_stays _ c.place_there-i.result c.insert_end.new.self c.index_mut.result.now alike ∙ ap (map bare) c.self.view_is

pub returns-clause-there : goal.returns-clause-there
returns-clause-there c =
    let there = subst (λ slots. StandsAt slot_number c.args.o.0 slots c.place_there-i.result) c.as_slice.ensures.value c.place_there-i.ensures in
    let alike = c.insert_end.ensures.bare ∙ ap bare c.index_mut.ensures.value in
    let before = ends_before _ _ c.args.o c.place_there-i.result c.index_mut.result.now c.args.side c.self.view_is there c.index_mut.ensures.value in
    let after = ends_changed _ c.args.o c.place_there-i.result there c.index_mut.result.now c.insert_end.new.self alike c.args.side in
    on_ok_weaker c.insert_end.result (λ added. subst₂ (λ old new. AddsEnd old new c.args.r c.args.other) (sym before) (sym after) added) c.insert_end.ensures.there

pub returns-clause-unchanged : goal.returns-clause-unchanged
returns-clause-unchanged c =
    let there = subst (λ slots. StandsAt slot_number c.args.o.0 slots c.place_there-i.result) c.as_slice.ensures.value c.place_there-i.ensures in
    let alike = c.insert_end.ensures.bare ∙ ap bare c.index_mut.ensures.value in
    let before = ends_before _ _ c.args.o c.place_there-i.result c.index_mut.result.now c.args.side c.self.view_is there c.index_mut.ensures.value in
    let after = ends_changed _ c.args.o c.place_there-i.result there c.index_mut.result.now c.insert_end.new.self alike c.args.side in
    on_err_weaker c.insert_end.result (λ same. subst₂ SameEnds (sym before) (sym after) same) c.insert_end.ensures.unchanged

pub returns-clause-succeeds : goal.returns-clause-succeeds
returns-clause-succeeds c fits =
    let there = subst (λ slots. StandsAt slot_number c.args.o.0 slots c.place_there-i.result) c.as_slice.ensures.value c.place_there-i.ensures in
    let before = ends_before _ _ c.args.o c.place_there-i.result c.index_mut.result.now c.args.side c.self.view_is there c.index_mut.ensures.value in
    c.insert_end.ensures.succeeds (subst (λ ends. length (objects_of ends c.args.r) < capacity_of ends c.args.r) before fits)

pub returns-clause-others : goal.returns-clause-others
returns-clause-others c =
    let there = subst (λ slots. StandsAt slot_number c.args.o.0 slots c.place_there-i.result) c.as_slice.ensures.value c.place_there-i.ensures in
    let alike = c.insert_end.ensures.bare ∙ ap bare c.index_mut.ensures.value in
    subst (λ old. OtherEndsStay old (slice_set c.self.inside.slots.items c.place_there-i.result c.insert_end.new.self) c.args.o c.args.side) c.self.view_is
    (OtherEndsStay_changed _ c.args.o c.place_there-i.result there c.index_mut.result.now c.insert_end.new.self alike c.args.side
    (λ t apart. c.insert_end.ensures.others t apart ∙ ap (slot_ends t) c.index_mut.ensures.value))

pub returns-clause-room : goal.returns-clause-room
returns-clause-room c =
    let there = subst (λ slots. StandsAt slot_number c.args.o.0 slots c.place_there-i.result) c.as_slice.ensures.value c.place_there-i.ensures in
    let alike = c.insert_end.ensures.bare ∙ ap bare c.index_mut.ensures.value in
    let before = ends_before _ _ c.args.o c.place_there-i.result c.index_mut.result.now c.args.side c.self.view_is there c.index_mut.ensures.value in
    let after = ends_changed _ c.args.o c.place_there-i.result there c.index_mut.result.now c.insert_end.new.self alike c.args.side in
    subst₂ KeepsRoom (sym before) (sym after) c.insert_end.ensures.room

pub returns-clause-shape : goal.returns-clause-shape
returns-clause-shape c =
    let there = subst (λ slots. StandsAt slot_number c.args.o.0 slots c.place_there-i.result) c.as_slice.ensures.value c.place_there-i.ensures in
    let alike = c.insert_end.ensures.bare ∙ ap bare c.index_mut.ensures.value in
    let after = ends_changed _ c.args.o c.place_there-i.result there c.index_mut.result.now c.insert_end.new.self alike c.args.side in
    subst HaveShape (sym after) c.insert_end.ensures.shape
