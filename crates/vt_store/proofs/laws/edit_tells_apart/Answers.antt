use Rattle.vt_store.specs.Edits.{same_object, same_gone, same_value, same_link}
use Rattle.vt_store.proofs.EditLemmas.{net-tells_apart}
use Rattle.vt_store.proofs.SameLemmas.{Decides-same_object, Decides-same_gone, Decides-same_value, Decides-same_link}
use Rattle.vt_store.proofs.laws.edit_tells_apart.Goals as goal

pub returns-clause-live : goal.returns-clause-live
returns-clause-live c before after = net-tells_apart same_object Decides-same_object before.live after.live

pub returns-clause-gone : goal.returns-clause-gone
returns-clause-gone c before after = net-tells_apart same_gone Decides-same_gone before.gone after.gone

pub returns-clause-values : goal.returns-clause-values
returns-clause-values c before after = net-tells_apart same_value Decides-same_value before.values after.values

pub returns-clause-links : goal.returns-clause-links
returns-clause-links c before after = net-tells_apart same_link Decides-same_link before.links after.links
