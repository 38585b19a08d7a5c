use Rattle.std.proofs.Common.{◌≤◌, ◌==◌, not, filter, length, ap, subst, ◌∙◌}
use Rattle.std.proofs.lemmas.List.Elements.{All-set}
use Rattle.vt_slots.specs.Ends.{EndList, ObjectsRise}
use Rattle.vt_slots.specs.Inside.Place.{StandsAt, GoesAt}
use Rattle.vt_slots.proofs.EndsLemmas.{reference_number, references_rise_changed, DropsEnd_changed, DropsEnd_absent, SameRoom_changed}
use Rattle.vt_slots.proofs.ends.Ends.remove.Goals as goal

pub invariant_of-self : goal.invariant_of-self
invariant_of-self c =
    let there = subst (λ lists. StandsAt reference_number c.args.r.0 lists c.in-Ok.i) c.as_slice.ensures.value c.in-Ok.ensures in
    let same = c.remove.ensures.reference ∙ ap (λ (l : EndList). l.reference) c.index_mut.ensures.value in (
      references_rise_changed _ c.args.r c.in-Ok.i there c.remove.new.self c.index_mut.result.now same c.self.invariant.0,
      All-set (λ (l : EndList). ObjectsRise l.objects) _ c.in-Ok.i c.remove.new.self c.remove.ensures.rises c.self.invariant.1,
      All-set (λ (l : EndList). length l.objects ≤ l.capacity) _ c.in-Ok.i c.remove.new.self c.remove.ensures.fits c.self.invariant.2,
    )

pub returns-in-Ok-clause-dropped : goal.returns-in-Ok-clause-dropped
returns-in-Ok-clause-dropped c =
    let there = subst (λ lists. StandsAt reference_number c.args.r.0 lists c.in-Ok.i) c.as_slice.ensures.value c.in-Ok.ensures in
    let same = c.remove.ensures.reference ∙ ap (λ (l : EndList). l.reference) c.index_mut.ensures.value in
    let dropped = c.remove.ensures.taken ∙ ap (λ (l : EndList). filter (λ x. not (x.0 == c.args.o.0)) l.objects) c.index_mut.ensures.value in
    rw (← c.self.view_is) (DropsEnd_changed _ c.args.r c.in-Ok.i there c.remove.new.self c.index_mut.result.now same c.args.o dropped)

pub returns-in-Ok-clause-room : goal.returns-in-Ok-clause-room
returns-in-Ok-clause-room c =
    let there = subst (λ lists. StandsAt reference_number c.args.r.0 lists c.in-Ok.i) c.as_slice.ensures.value c.in-Ok.ensures in
    let same = c.remove.ensures.reference ∙ ap (λ (l : EndList). l.reference) c.index_mut.ensures.value in
    let room = c.remove.ensures.room ∙ ap (λ (l : EndList). l.capacity) c.index_mut.ensures.value in
    rw (← c.self.view_is) (SameRoom_changed _ c.args.r c.in-Ok.i there c.remove.new.self c.index_mut.result.now same room)

pub returns-in-Ok-clause-references_rise : goal.returns-in-Ok-clause-references_rise
returns-in-Ok-clause-references_rise c =
    let there = subst (λ lists. StandsAt reference_number c.args.r.0 lists c.in-Ok.i) c.as_slice.ensures.value c.in-Ok.ensures in
    let same = c.remove.ensures.reference ∙ ap (λ (l : EndList). l.reference) c.index_mut.ensures.value in
    references_rise_changed _ c.args.r c.in-Ok.i there c.remove.new.self c.index_mut.result.now same c.self.invariant.0

pub returns-in-Err-clause-dropped : goal.returns-in-Err-clause-dropped
returns-in-Err-clause-dropped c =
    let out = subst (λ lists. GoesAt reference_number c.args.r.0 lists c.in-Err.field-0) (c.as_slice.ensures.value ∙ c.self.view_is) c.in-Err.ensures in
    DropsEnd_absent _ c.args.r c.in-Err.field-0 out c.args.o
