use Rattle.vt_grammar.proofs.WholeLemmas.{one_value}
use Rattle.vt_grammar.proofs.laws.one_tree.Goals as goal

pub returns : goal.returns
returns g c = one_value g.T.Spelled.grammar g.T.Spelled.factored g.T.Spelled.decided g.T.Spelled.same
