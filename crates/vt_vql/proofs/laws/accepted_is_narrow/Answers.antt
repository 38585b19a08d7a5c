use Rattle.vt_vql.proofs.NarrowLemmas.{made_narrow}
use Rattle.vt_vql.proofs.laws.accepted_is_narrow.Goals as goal

pub returns : goal.returns
returns c meta bytes program accepted = made_narrow meta accepted.tree program accepted.makes
