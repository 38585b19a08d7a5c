use Rattle.std.proofs.Common.{◌∙◌}
use Rattle.vt_slots.specs.Ends.{number_order}
use Rattle.vt_facts.proofs.RisingLemmas.{rises-none}
use Rattle.vt_graph.proofs.Linked.Held.{others_found}
use Rattle.vt_graph.proofs.graph.Graph.others.Goals as goal

pub returns-in-Some-clause-value : goal.returns-in-Some-clause-value
returns-in-Some-clause-value c = c.objects.ensures.value ∙ others_found _ _ _ _ c.self.view_is c.self.invariant.0 c.args.o c.args.side _ c.in-Some.ensures c.args.r

pub returns-in-None-clause-value : goal.returns-in-None-clause-value
returns-in-None-clause-value c = others_found _ _ _ _ c.self.view_is c.self.invariant.0 c.args.o c.args.side _ c.in-None.ensures c.args.r

pub returns-in-None-clause-rises : goal.returns-in-None-clause-rises
returns-in-None-clause-rises c = rises-none number_order
