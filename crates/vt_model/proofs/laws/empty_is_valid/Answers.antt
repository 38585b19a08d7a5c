use Rattle.vt_model.proofs.Valid.Empty.{IsValid-empty_model}
use Rattle.vt_model.proofs.laws.empty_is_valid.Goals as goal

pub returns : goal.returns
returns c = IsValid-empty_model
