use Rattle.std.proofs.Common.{refl}
use Rattle.vt_model.specs.declared.change.Change.TheVariants as change
use Rattle.vt_store.specs.declared.fault.StoreFault.TheVariants.{NoMemory}
use Rattle.vt_store.proofs.MakesLemmas.{makes_nothing}
use Rattle.vt_store.proofs.LinkageLemmas.{unlink_made, makes_unlinked}
use Rattle.vt_store.proofs.linkage.unlink.Goals as goal

-- the link went
pub returns-in-Ok : goal.returns-in-Ok
returns-in-Ok c =
    let asked = c.in_ok-asked.asked in
    makes_unlinked (change.Unlink c.args.name.now c.args.reference.now c.args.target.now) tt c.args.graph.now c.unmake_link.new.graph c.requires.sound c.requires.valid c.meta.ensures.room
    c.unmake_link.ensures.leaves.meta c.unmake_link.ensures.leaves.room asked c.in-Ok.edit (unlink_made c.args.graph.now.meta c.args.graph.now.model c.args.name.now c.args.reference.now c.args.target.now asked c.in_ok-asked.ensures.asked c.in_ok-asked.ensures.passes)
    c.in-Ok.ensures.made c.in-Ok.ensures.edit

pub returns-in-Err : goal.returns-in-Err
returns-in-Err c = makes_nothing _ c.args.graph.now c.unmake_link.new.graph NoMemory refl c.unmake_link.ensures.leaves.meta c.in-Err.ensures.unchanged c.unmake_link.ensures.leaves.room
