use Rattle.vt_tokens.proofs.SpellingLemmas.{some_end as proved}
use Rattle.vt_tokens.proofs.laws.spells_or_is_bad.Goals as goal

pub returns : goal.returns
returns c = proved
