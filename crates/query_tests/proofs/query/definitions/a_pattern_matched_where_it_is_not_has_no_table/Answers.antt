use Rattle.query_tests.proofs.SampleLemmas.{StandFor-denied}
use Rattle.query_tests.proofs.query.definitions.a_pattern_matched_where_it_is_not_has_no_table.Goals as goal

pub returns : goal.returns
returns c = StandFor-denied
