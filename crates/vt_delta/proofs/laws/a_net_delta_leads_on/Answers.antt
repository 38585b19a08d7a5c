use Rattle.vt_delta.proofs.DeltaLemmas.{Ascends-without, Fits-net, applied-net, net-itself}
use Rattle.vt_delta.proofs.laws.a_net_delta_leads_on.Goals as goal

pub returns-clause-sets : goal.returns-clause-sets
returns-clause-sets c before after rise rise_too = (Ascends-without before after rise_too, Ascends-without after before rise)

pub returns-clause-fits : goal.returns-clause-fits
returns-clause-fits c before after = Fits-net before after

pub returns-clause-leads : goal.returns-clause-leads
returns-clause-leads c before after rise rise_too = applied-net before after rise rise_too

pub returns-clause-empty : goal.returns-clause-empty
returns-clause-empty c rows = net-itself rows
