use Rattle.vt_change.proofs.TellLemmas.{TellsBelow}
use Rattle.vt_change.proofs.telling.tell_object.Given as goal

-- the classes so far have told
abbrev pub invariant-loop-c : goal.invariant-loop-c
invariant-loop-c l = TellsBelow l.meta l.way l.object l.fn.classes l.classes l.c
