use Rattle.std.proofs.Common.{refl}
use Rattle.std.specs.List.Sorted.{IsStrictlySortedBy}
use Rattle.run_tests.proofs.history.of_each_kind.Goals as goal

-- each is below those behind it
pub returns : goal.returns
unfolding IsStrictlySortedBy
returns c = ((refl, (refl, (refl, (refl, tt)))), ((refl, (refl, (refl, tt))), ((refl, (refl, tt)), ((refl, tt), (tt, tt)))))
