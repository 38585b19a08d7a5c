use Rattle.vt_model.proofs.KeptLemmas.{Keeps-transaction}
use Rattle.vt_model.proofs.laws.transaction_keeps_names.Goals as goal

pub returns : goal.returns
returns c = Keeps-transaction
