-- The value of an object is that of its slot.
use Rattle.std.proofs.Common.{sym, ap, ◌∙◌}
use Rattle.vt_graph.specs.Held.{Held}
use Rattle.vt_graph.specs.Asked.{value_at}
use Rattle.vt_graph.proofs.ValueLemmas.{value_at_indexed}
use Rattle.vt_graph.proofs.graph.Graph.value.Goals as goal

pub returns : goal.returns
returns c =
    let g = c.self.inside in
    c.value_of.ensures
    ∙ sym (value_at_indexed g.meta g.next g.slots c.self.invariant.0 c.args.o c.args.a)
    ∙ ap (λ (held : Held). value_at held.model c.args.o c.args.a) c.self.view_is
