use Rattle.std.proofs.Common.{◌∙◌}
use Rattle.vt_store.proofs.Linking.Ends.{listed_searched}
use Rattle.vt_store.proofs.displaced.is_found.Goals as goal

pub returns : goal.returns
returns c = c.is_ok.ensures.value ∙ listed_searched c.args.objects.now c.args.o c.binary_search.result c.requires c.binary_search.ensures.bound c.binary_search.ensures.position
