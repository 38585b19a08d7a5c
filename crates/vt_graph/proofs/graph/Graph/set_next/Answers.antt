use Rattle.std.proofs.Common.{◌<◌, subst, sym}
use Rattle.std.specs.Prelude.{All}
use Rattle.vt_graph.specs.Held.{Held}
use Rattle.vt_graph.proofs.NextLemmas.{indexed_next}
use Rattle.vt_graph.proofs.graph.Graph.set_next.Goals as goal

pub invariant_of-self : goal.invariant_of-self
invariant_of-self c = (
  indexed_next c.self.inside.meta c.self.inside.next c.args.n c.self.inside.slots c.self.invariant.0
      (subst (λ (s : Held). All (λ o. o.number.0 < c.args.n) s.model.live) (sym c.self.view_is) c.requires.live)
      (subst (λ (s : Held). All (λ o. o.number.0 < c.args.n) s.model.gone) (sym c.self.view_is) c.requires.gone)
      c.requires.in_range,
  c.self.invariant.1,
  c.self.invariant.2,
)
