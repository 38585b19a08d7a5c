use Rattle.vt_store.proofs.Deleting.Fitting.{named_live, delete_made, makes_deleted}
use Rattle.vt_store.proofs.deletion.delete.Goals as goal

-- the object that is named is live
pub remove-requires-clause-live : goal.remove-requires-clause-live
remove-requires-clause-live c = named_live c.args.graph.now.meta c.args.graph.now.model c.requires.valid c.args.name.now c.in_ok-object.object c.in_ok-object.ensures.live

-- it went, with all that was in it
pub returns : goal.returns
returns c =
    let object = c.in_ok-object.object in
    makes_deleted c.args.graph.now c.remove.new.graph c.in_ok-edit.edit object.number c.requires.valid c.in_ok-edit.ensures.deleted c.args.name.now
    c.requires.sound c.meta.ensures.room (delete_made c.args.graph.now.meta c.args.graph.now.model c.args.name.now object c.in_ok-object.ensures.live) c.remove.ensures.meta
