use Rattle.std.proofs.Common.{◌≡◌, slice_get, drop}
use Rattle.vt_sorted.specs.Inside.Pieces.{joined}
use Rattle.vt_sorted.proofs.large.item_at.Given as goal

abbrev pub invariant-loop-chunk : goal.invariant-loop-chunk
invariant-loop-chunk g l = slice_get (joined (drop l.chunk-index l.chunks)) l.left ≡ slice_get (joined l.fn.chunks) l.fn.i
