use Rattle.std.proofs.Common.{◌≡◌, ◌++◌, length}
use Rattle.vt_cli.proofs.events.add_rows.Given as goal

-- the rows so far, then those to come, are all
abbrev pub invariant-loop-row : goal.invariant-loop-row
invariant-loop-row l = l.out ++ l.walk ≡ l.fn.out ++ l.fn.rows.items

-- the rows to come
abbrev pub decreases-loop-row : goal.decreases-loop-row
decreases-loop-row l = length l.walk
