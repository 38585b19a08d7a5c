use Rattle.std.proofs.Common.{◌≡◌, ◌+◌, drop}
use Rattle.vt_sorted.specs.Inside.Pieces.{above_half}
use Rattle.vt_sorted.proofs.pieces.count_above_half.Given as goal

abbrev pub invariant-loop-chunk : goal.invariant-loop-chunk
invariant-loop-chunk g l = l.count + above_half (drop l.chunk-index l.used) ≡ above_half l.used
