use Rattle.vt_meta.specs.Faults.{is_above_itself}
use Rattle.vt_model.specs.Above.{class_id}
use Rattle.vt_meta.proofs.FirstLemmas.{NoneBefore}
use Rattle.vt_meta.proofs.cycles.super_cycle_place.Given as goal

abbrev pub invariant-loop-i : goal.invariant-loop-i
invariant-loop-i l = NoneBefore l.document (λ n c. is_above_itself l.document (class_id n)) l.i
