use Rattle.std.proofs.Common.{◌≡◌, length, fold}
use Rattle.vt_sorted.specs.Ascending.{with_item}
use Rattle.vt_base.specs.Order.{tuple_cmp}
use Rattle.vt_memory.proofs.tests.net.memory.Given as goal

-- the rows that are left make the rest
abbrev pub invariant-loop-row : goal.invariant-loop-row
invariant-loop-row g l = fold (with_item tuple_cmp) l.memory.rows l.walk ≡ l.fn.rows.items

abbrev pub decreases-loop-row : goal.decreases-loop-row
decreases-loop-row g l = length l.walk
