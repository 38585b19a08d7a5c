use Rattle.vt_tokens.proofs.SpellingLemmas.{one_list as proved}
use Rattle.vt_tokens.proofs.laws.one_list.Goals as goal

pub returns : goal.returns
returns c = proved
