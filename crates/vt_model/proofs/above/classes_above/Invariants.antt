use Rattle.vt_model.proofs.AboveLemmas.{IsWalk}
use Rattle.vt_model.proofs.above.classes_above.Given as goal

abbrev pub invariant-loop-next : goal.invariant-loop-next
invariant-loop-next l = IsWalk l.supers l.starts l.above.keys l.next
