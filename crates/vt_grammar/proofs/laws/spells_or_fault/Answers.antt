use Rattle.vt_grammar.proofs.WholeLemmas.{spelled_or_fault}
use Rattle.vt_grammar.proofs.laws.spells_or_fault.Goals as goal

pub returns : goal.returns
returns g c = spelled_or_fault g.T.Spelled.grammar g.T.Spelled.factored g.T.Spelled.decided g.T.Spelled.same
