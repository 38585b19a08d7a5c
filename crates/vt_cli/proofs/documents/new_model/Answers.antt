use Rattle.vt_cli.proofs.FewLemmas.{net_from_empty}
use Rattle.vt_cli.proofs.documents.new_model.Goals as goal

-- all rows of a model that is read are new
pub returns-in-Ok-clause-loaded : goal.returns-in-Ok-clause-loaded
returns-in-Ok-clause-loaded c = net_from_empty c.in-Ok.read.0.meta c.in-Ok.read.0.model c.in-Ok.read.1 c.in-Ok.ensures.delta
