use Rattle.vt_store.proofs.Deleting.Links.{collects_more}
use Rattle.vt_store.proofs.deletion.collect_links.Goals as goal

pub loop-x-preserved : goal.loop-x-preserved
loop-x-preserved c = collects_more c.args.graph.now.model c.args.found.now c.loop-x.x-index _ _ _ c.loop-x-test.true c.loop-x.invariant c.in_ok-add_links_at.ensures
