use Rattle.std.specs.List.{list_any}
use Rattle.vt_meta.specs.Faults.{is_bad_containment}
use Rattle.vt_meta.proofs.FirstLemmas.{NoneBefore}
use Rattle.vt_meta.proofs.opposites.bad_containment_place.Given as goal

abbrev pub invariant-loop-i : goal.invariant-loop-i
invariant-loop-i l = NoneBefore l.document (λ n c. list_any (is_bad_containment l.document) c.references) l.i
