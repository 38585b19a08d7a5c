use Rattle.vt_delta.proofs.NetLemmas.{after_coming-net, after_going-net}
use Rattle.vt_delta.proofs.laws.a_net_delta_stays_net.Goals as goal

pub returns-clause-came : goal.returns-clause-came
returns-clause-came c before now row rise rise_too absent = after_coming-net before now row rise rise_too absent

pub returns-clause-went : goal.returns-clause-went
returns-clause-went c before now row rise rise_too there = after_going-net before now row rise rise_too there
