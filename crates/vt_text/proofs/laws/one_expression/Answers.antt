use Rattle.vt_text.proofs.SpelledLemmas.{one_expression}
use Rattle.vt_text.proofs.laws.one_expression.Goals as goal

pub returns : goal.returns
returns c = one_expression
