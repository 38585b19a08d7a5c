use Rattle.vt_text.proofs.KindLemmas.{has_kind}
use Rattle.vt_text.proofs.laws.values_have_the_kind.Goals as goal

pub returns : goal.returns
returns c = has_kind
