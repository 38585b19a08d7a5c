use Rattle.vt_syntax.proofs.ExpressionLemmas.{is_spelled, spelled_is}
use Rattle.vt_syntax.proofs.laws.expression_is_spelled.Goals as goal

pub returns : goal.returns
returns c ls e = (is_spelled ls e, spelled_is ls e)
