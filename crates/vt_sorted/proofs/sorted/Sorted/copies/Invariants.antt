use Rattle.std.proofs.Common.{◌≡◌, ◌++◌, length}
use Rattle.vt_sorted.proofs.sorted.Sorted.copies.Given as goal

abbrev pub invariant-loop-item : goal.invariant-loop-item
invariant-loop-item g l = l.copies.items ++ l.walk ≡ l.fn.self.items

abbrev pub decreases-loop-item : goal.decreases-loop-item
decreases-loop-item g l = length l.walk
