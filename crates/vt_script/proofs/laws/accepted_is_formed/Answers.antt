use Rattle.vt_script.proofs.FormedLemmas.{formed_script}
use Rattle.vt_script.proofs.laws.accepted_is_formed.Goals as goal

pub returns-clause-formed : goal.returns-clause-formed
returns-clause-formed c bytes lines e = (formed_script bytes lines e).0

pub returns-clause-few : goal.returns-clause-few
returns-clause-few c bytes lines e = (formed_script bytes lines e).1
