use Rattle.vt_delta.proofs.DeltaLemmas.{FitsBase-net, SameRows-net}
use Rattle.vt_delta.proofs.laws.net_deltas_lead_on.Goals as goal

pub returns-clause-fits : goal.returns-clause-fits
returns-clause-fits c before after difference is = FitsBase-net before after difference is

pub returns-clause-leads : goal.returns-clause-leads
returns-clause-leads c before after difference rise rise_too is = SameRows-net before after difference rise rise_too is
