use Rattle.vt_meta.specs.Faults.{has_clash}
use Rattle.vt_model.specs.Above.{class_id}
use Rattle.vt_meta.proofs.FirstLemmas.{NoneBefore}
use Rattle.vt_meta.proofs.clashes.feature_clash_place.Given as goal

abbrev pub invariant-loop-i : goal.invariant-loop-i
invariant-loop-i l = NoneBefore l.document (λ n c. has_clash l.document (class_id n)) l.i
