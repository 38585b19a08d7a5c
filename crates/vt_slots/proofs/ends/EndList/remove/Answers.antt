use Rattle.std.proofs.Common.{◌==◌, not, filter, sym, ap, subst, ◌∙◌}
use Rattle.vt_slots.specs.Ends.{ObjectsRise}
use Rattle.vt_slots.specs.Inside.Place.{StandsAt, GoesAt}
use Rattle.vt_slots.proofs.PlaceLemmas.{filter_stands, filter_goes}
use Rattle.vt_slots.proofs.EndsLemmas.{object_number, rise_without_object}
use Rattle.vt_slots.proofs.ends.EndList.remove.Goals as goal

pub invariant_of-self : goal.invariant_of-self
invariant_of-self c =
    let place = subst (λ objects. StandsAt object_number c.args.o.0 objects c.in-Ok.i) c.as_slice.ensures.value c.in-Ok.ensures in
    let fewer = c.remove.ensures.items ∙ filter_stands object_number c.args.o.0 _ c.in-Ok.i place in
    subst ObjectsRise (sym fewer) (rise_without_object _ c.args.o c.self.invariant)

pub returns-in-Ok-clause-taken : goal.returns-in-Ok-clause-taken
returns-in-Ok-clause-taken c =
    let place = subst (λ objects. StandsAt object_number c.args.o.0 objects c.in-Ok.i) c.as_slice.ensures.value c.in-Ok.ensures in
    c.remove.ensures.items ∙ filter_stands object_number c.args.o.0 _ c.in-Ok.i place
    ∙ ap (λ list. filter (λ x. not (x.0 == c.args.o.0)) list.objects) c.self.view_is

pub returns-in-Ok-clause-rises : goal.returns-in-Ok-clause-rises
returns-in-Ok-clause-rises c =
    let place = subst (λ objects. StandsAt object_number c.args.o.0 objects c.in-Ok.i) c.as_slice.ensures.value c.in-Ok.ensures in
    let fewer = c.remove.ensures.items ∙ filter_stands object_number c.args.o.0 _ c.in-Ok.i place in
    subst ObjectsRise (sym fewer) (rise_without_object _ c.args.o c.self.invariant)

pub returns-in-Err-clause-taken : goal.returns-in-Err-clause-taken
returns-in-Err-clause-taken c =
    let place = subst (λ objects. GoesAt object_number c.args.o.0 objects c.in-Err.field-0) (c.as_slice.ensures.value ∙ ap (λ list. list.objects) c.self.view_is) c.in-Err.ensures in
    sym (filter_goes object_number c.args.o.0 _ c.in-Err.field-0 place)
