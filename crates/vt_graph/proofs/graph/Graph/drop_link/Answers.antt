use Rattle.vt_graph.proofs.Linked.Bare.{ends_rise, indexed_same, listings_same}
use Rattle.vt_graph.proofs.Linked.Changed.{two_ended_dropped}
use Rattle.vt_graph.proofs.Linked.Held.{model_dropped, places_keep}
use Rattle.vt_graph.proofs.graph.Graph.drop_link.Goals as goal

pub drop_ends-requires : goal.drop_ends-requires
drop_ends-requires c = record { shape = record { rise = ends_rise _ _ _ c.self.invariant.0; fit = c.self.invariant.0.room } }

pub invariant_of-self : goal.invariant_of-self
invariant_of-self c = (
  indexed_same _ _ c.drop_ends.ensures.ends.same _ _ c.self.invariant.0 c.drop_ends.ensures.ends.shape.rise c.drop_ends.ensures.ends.shape.fit
      (two_ended_dropped _ _ c.args.link c.drop_ends.ensures.dropped c.self.invariant.0.two_ended),
  c.self.invariant.1,
  listings_same _ _ c.drop_ends.ensures.ends.same _ _ c.self.invariant.2,
)

pub returns-clause-dropped : goal.returns-clause-dropped
returns-clause-dropped c = model_dropped _ _ _ _ _ c.self.view_is c.self.invariant.0 c.drop_ends.ensures.ends.same c.drop_ends.ensures.ends.shape.rise c.args.link c.drop_ends.ensures.dropped

pub returns-clause-room : goal.returns-clause-room
returns-clause-room c = places_keep _ _ _ _ _ c.self.view_is c.self.invariant.0 c.drop_ends.ensures.ends.same c.drop_ends.ensures.ends.shape.rise c.drop_ends.ensures.ends.room
