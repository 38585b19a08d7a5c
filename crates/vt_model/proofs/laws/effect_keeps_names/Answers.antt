use Rattle.vt_model.proofs.KeptLemmas.{Keeps-effect}
use Rattle.vt_model.proofs.laws.effect_keeps_names.Goals as goal

pub returns : goal.returns
returns c = Keeps-effect
