use Rattle.std.proofs.Common.{[], ◌∷◌, ◌++◌, sym, ap, subst, ◌∙◌}
use Rattle.vt_base.proofs.RowsLemmas.{ascends-none}
use Rattle.vt_slots.specs.Ends.{number_order, ObjectsRise}
use Rattle.vt_slots.proofs.EndsLemmas.{rise_with_object}
use Rattle.vt_slots.proofs.ends.EndList.single.Goals as goal

pub invariant_of-result : goal.invariant_of-result
invariant_of-result c =
    subst ObjectsRise (sym (c.in_ok-push.ensures.items ∙ ap (λ objects. objects ++ c.args.o ∷ []) c.new-objects.ensures.items)) (rise_with_object [] c.args.o (ascends-none number_order))
