use Rattle.std.proofs.Common.{◌≡◌, ◌≤◌, length, get_or, sym, ap, subst, ◌∙◌}
use Rattle.vt_base.proofs.RowsLemmas.{ascends-none}
use Rattle.vt_slots.specs.Ends.{EndList, number_order}
use Rattle.vt_slots.specs.Inside.Place.{StandsAt, GoesAt}
use Rattle.vt_slots.proofs.EndsLemmas.{reference_number, objects_stand, capacity_stands, no_objects}
use Rattle.vt_slots.proofs.ends.Ends.objects.Goals as goal

pub returns-in-Ok-clause-value : goal.returns-in-Ok-clause-value
returns-in-Ok-clause-value c =
    let there = subst (λ lists. StandsAt reference_number c.args.r.0 lists c.in-Ok.i) (c.as_slice.ensures.value ∙ c.self.view_is) c.in-Ok.ensures in
    c.objects.ensures.value ∙ ap (λ list. list.objects) (c.index.ensures ∙ ap (λ lists. get_or lists c.in-Ok.i c.index.result.now) c.self.view_is)
    ∙ sym (objects_stand _ c.args.r c.in-Ok.i there c.index.result.now)

pub returns-in-Ok-clause-room : goal.returns-in-Ok-clause-room
returns-in-Ok-clause-room c =
    let there = subst (λ lists. StandsAt reference_number c.args.r.0 lists c.in-Ok.i) (c.as_slice.ensures.value ∙ c.self.view_is) c.in-Ok.ensures in
    let list : c.index.result.now ≡ get_or c.args.self.now c.in-Ok.i c.index.result.now = c.index.ensures ∙ ap (λ lists. get_or lists c.in-Ok.i c.index.result.now) c.self.view_is in
    subst (λ room. length c.objects.result.now ≤ room) (ap (λ (l : EndList). l.capacity) list ∙ sym (capacity_stands _ c.args.r c.in-Ok.i there c.index.result.now)) c.objects.ensures.room

pub returns-in-Err-clause-value : goal.returns-in-Err-clause-value
returns-in-Err-clause-value c =
    let out = subst (λ lists. GoesAt reference_number c.args.r.0 lists c.in-Err.field-0) (c.as_slice.ensures.value ∙ c.self.view_is) c.in-Err.ensures in
    sym (no_objects _ c.args.r c.in-Err.field-0 out)

pub returns-in-Err-clause-rises : goal.returns-in-Err-clause-rises
returns-in-Err-clause-rises c = ascends-none number_order
