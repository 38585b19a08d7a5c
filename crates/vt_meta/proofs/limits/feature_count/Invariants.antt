use Rattle.std.proofs.Common.{◌≡◌, take}
use Rattle.std.specs.Prelude.{sum_by}
use Rattle.vt_meta.specs.Faults.{feature_count}
use Rattle.vt_meta.proofs.limits.feature_count.Given as goal

abbrev pub invariant-loop-class : goal.invariant-loop-class
invariant-loop-class l = l.count ≡ sum_by feature_count (take l.class-index l.classes)
