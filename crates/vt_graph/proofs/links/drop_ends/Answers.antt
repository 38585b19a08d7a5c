use Rattle.vt_slots.specs.declared.slot.Side.TheVariants.{Outgoing, Incoming}
use Rattle.vt_graph.proofs.Linked.Steps.{ends_same_step, ends_then}
use Rattle.vt_graph.proofs.links.drop_ends.Goals as goal

pub returns-clause-ends : goal.returns-clause-ends
returns-clause-ends c =
    let first = ends_same_step _ c.remove_end.new.self c.args.link.source Outgoing c.remove_end.ensures.others c.remove_end.ensures.bare c.requires.shape c.remove_end.ensures.shape c.remove_end.ensures.room in
    let second = ends_same_step c.remove_end.new.self c.remove_end-2.new.self c.args.link.target Incoming c.remove_end-2.ensures.others c.remove_end-2.ensures.bare first.shape c.remove_end-2.ensures.shape c.remove_end-2.ensures.room in
    ends_then _ _ _ first second
