use Rattle.vt_grammar.proofs.WholeLemmas.{one_fault}
use Rattle.vt_grammar.proofs.laws.one_fault.Goals as goal

pub returns : goal.returns
returns g c = one_fault g.T.Spelled.grammar
