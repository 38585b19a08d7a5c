use Rattle.std.proofs.Common.{refl, sym, ap, subst, ◌∙◌}
use Rattle.std.specs.BTreeSet.{insert_key}
use Rattle.vt_slots.specs.Ends.{number_order, ObjectsRise}
use Rattle.vt_slots.specs.Inside.Place.{StandsAt, GoesAt}
use Rattle.vt_slots.proofs.PlaceLemmas.{insert_goes, insert_key_stands}
use Rattle.vt_slots.proofs.EndsLemmas.{object_number, rise_with_object}
use Rattle.vt_slots.proofs.ends.EndList.insert.Goals as goal

pub invariant_of-self-in-Err : goal.invariant_of-self-in-Err
invariant_of-self-in-Err c =
    let place = subst (λ objects. GoesAt object_number c.args.o.0 objects c.in-Err.i) c.as_slice.ensures.value c.in-Err.ensures in
    let grown = c.in_ok-insert-in-Err.ensures.items ∙ insert_goes object_number c.args.o.0 _ c.in-Err.i c.args.o place refl in
    subst ObjectsRise (sym grown) (rise_with_object _ c.args.o c.self.invariant)

pub returns-in-Ok-clause-added : goal.returns-in-Ok-clause-added
returns-in-Ok-clause-added c =
    let place = subst (λ objects. StandsAt object_number c.args.o.0 objects c.in-Ok.field-0) (c.as_slice.ensures.value ∙ ap (λ list. list.objects) c.self.view_is) c.in-Ok.ensures in
    sym (insert_key_stands object_number c.args.o.0 _ c.in-Ok.field-0 c.args.o place refl)

pub returns-in_ok-insert-in-Err-clause-added : goal.returns-in_ok-insert-in-Err-clause-added
returns-in_ok-insert-in-Err-clause-added c =
    let place = subst (λ objects. GoesAt object_number c.args.o.0 objects c.in-Err.i) c.as_slice.ensures.value c.in-Err.ensures in
    c.in_ok-insert-in-Err.ensures.items ∙ insert_goes object_number c.args.o.0 _ c.in-Err.i c.args.o place refl
    ∙ ap (λ list. insert_key number_order list.objects c.args.o) c.self.view_is

pub returns-in_ok-insert-in-Err-clause-rises : goal.returns-in_ok-insert-in-Err-clause-rises
returns-in_ok-insert-in-Err-clause-rises c =
    let place = subst (λ objects. GoesAt object_number c.args.o.0 objects c.in-Err.i) c.as_slice.ensures.value c.in-Err.ensures in
    let grown = c.in_ok-insert-in-Err.ensures.items ∙ insert_goes object_number c.args.o.0 _ c.in-Err.i c.args.o place refl in
    subst ObjectsRise (sym grown) (rise_with_object _ c.args.o c.self.invariant)
