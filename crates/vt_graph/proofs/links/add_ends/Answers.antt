use Rattle.vt_slots.specs.declared.slot.Side.TheVariants.{Outgoing, Incoming}
use Rattle.vt_graph.proofs.Linked.Steps.{ends_step, ends_same_step, same_step, ends_then, lives_on, taken_back, on_err}
use Rattle.vt_graph.proofs.links.add_ends.Goals as goal

pub returns-in_err-insert_end-clause-unchanged : goal.returns-in_err-insert_end-clause-unchanged
returns-in_err-insert_end-clause-unchanged c = on_err _ (same_step _ _ c.args.link.source Outgoing c.insert_end.ensures.others c.in_err-insert_end.ensures.unchanged)

pub returns-in_err-insert_end-clause-ends : goal.returns-in_err-insert_end-clause-ends
returns-in_err-insert_end-clause-ends c =
    ends_step _ _ c.args.link.source Outgoing c.insert_end.ensures.others c.insert_end.ensures.bare c.requires.shape c.insert_end.ensures.shape c.insert_end.ensures.room

pub insert_end-requires-2 : goal.insert_end-requires-2
insert_end-requires-2 c = record { live = lives_on _ _ c.args.link.target c.insert_end.ensures.bare c.requires.target }

pub returns-in-Ok-clause-ends : goal.returns-in-Ok-clause-ends
returns-in-Ok-clause-ends c =
    let first = ends_step _ c.insert_end.new.self c.args.link.source Outgoing c.insert_end.ensures.others c.insert_end.ensures.bare c.requires.shape c.insert_end.ensures.shape c.insert_end.ensures.room in
    let second = ends_step c.insert_end.new.self c.insert_end-2.new.self c.args.link.target Incoming c.insert_end-2.ensures.others c.insert_end-2.ensures.bare first.shape c.insert_end-2.ensures.shape c.insert_end-2.ensures.room in
    ends_then _ _ _ first second

pub returns-in-Err-clause-unchanged : goal.returns-in-Err-clause-unchanged
returns-in-Err-clause-unchanged c = taken_back _ c.insert_end.new.self c.insert_end-2.new.self _ c.args.link c.requires.shape.rise c.requires.fresh
    c.in_ok-insert_end.ensures.there c.insert_end.ensures.others c.in-Err.ensures.unchanged c.insert_end-2.ensures.others c.remove_end.ensures.there c.remove_end.ensures.others

pub returns-in-Err-clause-ends : goal.returns-in-Err-clause-ends
returns-in-Err-clause-ends c =
    let first = ends_step _ c.insert_end.new.self c.args.link.source Outgoing c.insert_end.ensures.others c.insert_end.ensures.bare c.requires.shape c.insert_end.ensures.shape c.insert_end.ensures.room in
    let second = ends_step c.insert_end.new.self c.insert_end-2.new.self c.args.link.target Incoming c.insert_end-2.ensures.others c.insert_end-2.ensures.bare first.shape c.insert_end-2.ensures.shape c.insert_end-2.ensures.room in
    let third = ends_same_step c.insert_end-2.new.self c.remove_end.new.self c.args.link.source Outgoing c.remove_end.ensures.others c.remove_end.ensures.bare second.shape c.remove_end.ensures.shape c.remove_end.ensures.room in
    ends_then _ _ _ first (ends_then _ _ _ second third)
