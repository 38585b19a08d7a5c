use Rattle.vt_model.specs.declared.change.Change.TheVariants as change
use Rattle.vt_store.proofs.LinkageLemmas.{link_made, makes_linked}
use Rattle.vt_store.proofs.linkage.link.Goals as goal

-- the link came, or would have closed a cycle
pub returns : goal.returns
returns c =
    let asked = c.in_ok-asked.asked in
    makes_linked (change.Link c.args.name.now c.args.reference.now c.args.target.now) tt c.args.graph.now c.make_link.new.graph c.requires.sound c.requires.valid c.meta.ensures.room
    c.make_link.ensures.leaves.meta c.make_link.ensures.leaves.room asked c.make_link.result (link_made c.args.graph.now.meta c.args.graph.now.model c.args.name.now c.args.reference.now c.args.target.now asked c.in_ok-asked.ensures.asked c.in_ok-asked.ensures.passes)
    c.make_link.ensures.made c.make_link.ensures.refused c.make_link.ensures.edit c.make_link.ensures.unchanged
