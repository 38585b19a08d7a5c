use Rattle.vt_tokens.proofs.SpellingLemmas.{one_line as proved}
use Rattle.vt_tokens.proofs.laws.one_bad_line.Goals as goal

pub returns : goal.returns
returns c = proved
