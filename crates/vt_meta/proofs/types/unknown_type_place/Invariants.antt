use Rattle.vt_meta.specs.Faults.{has_unknown_type}
use Rattle.vt_meta.proofs.FirstLemmas.{NoneBefore}
use Rattle.vt_meta.proofs.types.unknown_type_place.Given as goal

abbrev pub invariant-loop-i : goal.invariant-loop-i
invariant-loop-i l = NoneBefore l.document (λ n c. has_unknown_type l.document c) l.i
