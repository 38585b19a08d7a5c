use Rattle.vt_tokens.proofs.SpellingLemmas.{never_both as proved}
use Rattle.vt_tokens.proofs.laws.bad_spells_nothing.Goals as goal

pub returns : goal.returns
returns c = proved
