use Rattle.vt_grammar.proofs.WholeLemmas.{whole_spelled, spelled_whole}
use Rattle.vt_grammar.proofs.laws.reading_is_spelling.Goals as goal

pub returns : goal.returns
returns g c = λ ls x. (whole_spelled g.T.Spelled.grammar g.T.Spelled.factored g.T.Spelled.decided g.T.Spelled.same ls x, spelled_whole g.T.Spelled.grammar g.T.Spelled.factored g.T.Spelled.decided g.T.Spelled.same ls x)
