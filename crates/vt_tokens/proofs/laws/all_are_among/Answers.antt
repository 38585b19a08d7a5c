use Rattle.vt_tokens.proofs.LexemeLemmas.{all_among}
use Rattle.vt_tokens.proofs.laws.all_are_among.Goals as goal

pub returns : goal.returns
returns c = all_among
