-- No places rise.
use Rattle.vt_slots.specs.Values.{attribute_order}
use Rattle.vt_facts.proofs.RisingLemmas.{rises-none}
use Rattle.vt_graph.proofs.values.values_of.Goals as goal

pub returns-in-None-body-clause-rises : goal.returns-in-None-body-clause-rises
returns-in-None-body-clause-rises c = rises-none attribute_order

pub returns-in-None-clause-rises : goal.returns-in-None-clause-rises
returns-in-None-clause-rises c = rises-none attribute_order
