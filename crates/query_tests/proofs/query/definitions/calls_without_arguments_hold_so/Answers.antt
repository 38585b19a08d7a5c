use Rattle.std.proofs.Common.{[], refl}
use Rattle.std.proofs.lemmas.Bool.{true≢false}
use Rattle.query_tests.proofs.query.definitions.calls_without_arguments_hold_so.Goals as goal

-- the row () agrees
pub returns-clause-denied : goal.returns-clause-denied
returns-clause-denied c meta g denied = true≢false (denied [] refl)
