use Rattle.std.proofs.Common.{ap, ◌∙◌}
use Rattle.vt_slots.specs.Ends.{reference_order, objects_of}
use Rattle.vt_facts.proofs.RisingLemmas.{rises-none}
use Rattle.vt_graph.proofs.Linked.Held.{others_found}
use Rattle.vt_graph.proofs.graph.Graph.ends.Goals as goal

pub returns-in-Some-clause-objects : goal.returns-in-Some-clause-objects
returns-in-Some-clause-objects c r =
    ap (λ lists. objects_of lists r) c.as_slice.ensures.value ∙ others_found _ _ _ _ c.self.view_is c.self.invariant.0 c.args.o c.args.side _ c.in-Some.ensures r

pub returns-in-None-clause-objects : goal.returns-in-None-clause-objects
returns-in-None-clause-objects c r = others_found _ _ _ _ c.self.view_is c.self.invariant.0 c.args.o c.args.side _ c.in-None.ensures r

pub returns-in-None-clause-references_rise : goal.returns-in-None-clause-references_rise
returns-in-None-clause-references_rise c = rises-none reference_order
