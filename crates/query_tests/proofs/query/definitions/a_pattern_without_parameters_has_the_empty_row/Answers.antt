use Rattle.std.proofs.Common.{[]}
use Rattle.std.proofs.lemmas.List.Elements.{All-nil}
use Rattle.query_tests.proofs.SampleLemmas.{StandFor-one}
use Rattle.query_tests.proofs.query.definitions.a_pattern_without_parameters_has_the_empty_row.Goals as goal

pub returns : goal.returns
returns c meta g = StandFor-one meta g [] (All-nil _)
