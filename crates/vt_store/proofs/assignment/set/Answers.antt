use Rattle.vt_store.proofs.AssignmentLemmas.{makes_assigned}
use Rattle.vt_store.proofs.assignment.set.Goals as goal

-- the attribute got its value
pub returns : goal.returns
returns c =
    let asked = c.in_ok-asked.asked in
    makes_assigned c.args.graph.now c.assign.new.graph c.in_ok-edit.edit asked.object asked.attribute asked.value c.requires.valid c.in_ok-edit.ensures.made c.in_ok-edit.ensures.edit _
    c.is_givable.ensures c.requires.sound c.meta.ensures.room c.in_ok-asked.ensures.made c.assign.ensures.meta c.assign.ensures.places
