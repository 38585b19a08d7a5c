use Rattle.std.proofs.Common.{◌≡◌}
use Rattle.vt_sorted.specs.Inside.Pieces.{joined}
use Rattle.vt_sorted.proofs.large.flatten.Given as goal

abbrev pub invariant-loop-chunk : goal.invariant-loop-chunk
invariant-loop-chunk g l = l.items.items ≡ joined l.yielded
