use Rattle.std.proofs.Common.{map, drop}
use Rattle.vt_change.specs.declared.telling.Way.TheVariants.{Going}
use Rattle.vt_change.specs.Inside.Telling.{object_rows}
use Rattle.vt_change.proofs.TellLemmas.{Leaves}
use Rattle.vt_change.proofs.telling.tell_deleted.Given as goal

-- some objects are left
abbrev pub invariant-loop-buried : goal.invariant-loop-buried
invariant-loop-buried l = Leaves Going (object_rows l.meta (map (λ b. b.object) (drop l.buried-index l.deleted))) (object_rows l.meta (map (λ b. b.object) l.deleted)) l.fn.classes l.classes
