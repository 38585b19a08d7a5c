-- The changes that are left.
use Rattle.std.proofs.Common.{length}
use Rattle.model_tests.proofs.store.random.+run.Given as goal

abbrev pub decreases-run : goal.decreases-run
decreases-run l = length l.changes.now
