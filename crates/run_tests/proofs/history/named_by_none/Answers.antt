use Rattle.std.proofs.Common.{refl}
use Rattle.std.specs.List.Sorted.{IsStrictlySortedBy}
use Rattle.run_tests.proofs.history.named_by_none.Goals as goal

-- the first is below the second
pub returns : goal.returns
unfolding IsStrictlySortedBy
returns c = ((refl, tt), (tt, tt))
