use Rattle.vt_tokens.proofs.SpellingLemmas.{are_slices as proved}
use Rattle.vt_tokens.proofs.laws.tokens_are_slices.Goals as goal

pub returns : goal.returns
returns c = proved
