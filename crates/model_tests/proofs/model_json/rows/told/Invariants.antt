use Rattle.std.proofs.Common.{length}
use Rattle.model_tests.proofs.model_json.rows.told.Given as goal

-- the rows to come
abbrev pub decreases-loop-row : goal.decreases-loop-row
decreases-loop-row l = length l.walk
