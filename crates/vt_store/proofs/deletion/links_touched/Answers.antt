use Rattle.vt_store.proofs.Deleting.Links.{touched_collected}
use Rattle.vt_store.proofs.deletion.links_touched.Goals as goal

pub returns : goal.returns
returns c =
    let g = c.args.graph.now in
    touched_collected g.meta g.model c.requires.valid c.args.o c.args.found.now c.arrange.new.links.items c.requires.found _ c.in_ok-links.ensures
    (record { rises = c.arrange.ensures.rise; kept = c.arrange.ensures.kept; stood = c.arrange.ensures.among })
