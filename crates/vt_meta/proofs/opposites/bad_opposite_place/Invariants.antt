use Rattle.std.specs.List.{list_any}
use Rattle.vt_meta.specs.Faults.{lacks_opposite}
use Rattle.vt_meta.proofs.FirstLemmas.{NoneBefore}
use Rattle.vt_meta.proofs.opposites.bad_opposite_place.Given as goal

abbrev pub invariant-loop-i : goal.invariant-loop-i
invariant-loop-i l = NoneBefore l.document (λ n c. list_any (lacks_opposite l.document c) c.references) l.i
