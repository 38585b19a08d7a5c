use Rattle.std.proofs.Common.{refl}
use Rattle.vt_store.specs.declared.fault.StoreFault.TheVariants.{NoMemory}
use Rattle.vt_store.proofs.MakesLemmas.{makes_nothing}
use Rattle.vt_store.proofs.CreateLemmas.{makes_created}
use Rattle.vt_store.proofs.creation.create.Goals as goal

-- the object came
pub returns-in-Ok : goal.returns-in-Ok
returns-in-Ok c =
    let asked = c.in_ok-asked.asked in
    makes_created c.args.graph.now c.add_object.new.graph c.in-Ok.edit c.args.name.now asked.class asked.number c.requires.valid c.in_ok-asked.ensures.fresh.above c.in-Ok.ensures.made c.in-Ok.ensures.edit
    c.args.class.now c.args.number c.requires.sound c.meta.ensures.room c.in_ok-asked.ensures.made c.add_object.ensures.meta c.add_object.ensures.room

pub returns-in-Err : goal.returns-in-Err
returns-in-Err c = makes_nothing _ c.args.graph.now c.add_object.new.graph NoMemory refl c.add_object.ensures.meta c.in-Err.ensures.unchanged c.add_object.ensures.room
