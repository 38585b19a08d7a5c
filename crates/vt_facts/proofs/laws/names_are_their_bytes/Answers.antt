use Rattle.vt_facts.proofs.NameLemmas.{same_bytes, is_name-itself}
use Rattle.vt_facts.proofs.laws.names_are_their_bytes.Goals as goal

pub returns : goal.returns
returns c a b = (same_bytes a b, is_name-itself a b)
