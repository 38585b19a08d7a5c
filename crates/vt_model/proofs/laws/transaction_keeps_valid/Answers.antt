use Rattle.vt_model.proofs.Valid.{IsValid-transaction}
use Rattle.vt_model.proofs.laws.transaction_keeps_valid.Goals as goal

pub returns : goal.returns
returns c = IsValid-transaction
