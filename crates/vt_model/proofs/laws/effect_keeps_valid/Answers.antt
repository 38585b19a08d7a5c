use Rattle.vt_model.proofs.Valid.{IsValid-effect}
use Rattle.vt_model.proofs.laws.effect_keeps_valid.Goals as goal

pub returns : goal.returns
returns c = IsValid-effect
