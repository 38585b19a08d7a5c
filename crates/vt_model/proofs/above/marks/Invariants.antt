use Rattle.std.proofs.Common.{◌≡◌, map, nat_eq}
use Rattle.std.specs.List.{list_any, range_with_len}
use Rattle.vt_model.proofs.above.marks.Given as goal

abbrev pub invariant-loop-d : goal.invariant-loop-d
invariant-loop-d l = l.row ≡ map (λ d. list_any (nat_eq d) l.above.keys) (range_with_len 0 l.d-counter)
