use Rattle.std.specs.List.Sorted.{IsStrictlySortedBy}
use Rattle.run_tests.proofs.history.none.Goals as goal

-- there is nothing to order
pub returns : goal.returns
unfolding IsStrictlySortedBy
returns c = tt
