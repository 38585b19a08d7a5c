use Rattle.std.proofs.Common.{◌≡◌, ◌<◌, ◌≤◌, ◌++◌, length, vec_len}
use Rattle.vt_sorted.specs.Inside.Pieces.{joined, IsFilled}
use Rattle.vt_sorted.proofs.pieces.push_all.Given as goal

abbrev pub invariant-loop-item : goal.invariant-loop-item
invariant-loop-item g l = record {
  items : joined l.used.items ++ l.last ≡ joined l.fn.used.items ++ l.fn.last ++ l.yielded;
  filled : IsFilled l.used.items;
  last_filled : 0 < vec_len l.used → 1 ≤ length l.last;
}
