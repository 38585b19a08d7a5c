use Rattle.query_tests.proofs.SampleLemmas.{StandFor-free}
use Rattle.query_tests.proofs.query.definitions.a_parameter_that_nothing_binds_has_no_table.Goals as goal

pub returns : goal.returns
returns c = StandFor-free
