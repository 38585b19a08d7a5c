use Rattle.query_tests.proofs.SampleLemmas.{StandFor-found_none, StandFor-found_one}
use Rattle.query_tests.proofs.query.definitions.a_circle_of_calls_has_two_lists_of_tables.Goals as goal

pub returns-clause-none : goal.returns-clause-none
returns-clause-none c = StandFor-found_none

pub returns-clause-one : goal.returns-clause-one
returns-clause-one c = StandFor-found_one
