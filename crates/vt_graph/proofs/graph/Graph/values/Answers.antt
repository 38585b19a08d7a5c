-- The values of an object are those of its slot.
use Rattle.std.proofs.Common.{sym, ap, ◌∙◌}
use Rattle.vt_graph.specs.Held.{Held}
use Rattle.vt_graph.specs.Asked.{value_at}
use Rattle.vt_graph.proofs.ValueLemmas.{value_at_indexed}
use Rattle.vt_graph.proofs.graph.Graph.values.Goals as goal

pub returns-clause-value : goal.returns-clause-value
returns-clause-value c a =
    let g = c.self.inside in
    c.values_of.ensures.value a
    ∙ sym (value_at_indexed g.meta g.next g.slots c.self.invariant.0 c.args.o a)
    ∙ ap (λ (held : Held). value_at held.model c.args.o a) c.self.view_is
