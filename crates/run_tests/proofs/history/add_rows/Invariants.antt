use Rattle.std.proofs.Common.{length}
use Rattle.run_tests.proofs.history.add_rows.Given as goal

-- the rows to come
abbrev pub decreases-loop-row : goal.decreases-loop-row
decreases-loop-row l = length l.walk
