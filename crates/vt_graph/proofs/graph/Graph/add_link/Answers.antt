use Rattle.std.proofs.Common.{subst}
use Rattle.std.specs.Prelude.{Contains}
use Rattle.std.proofs.lemmas.Result.{on_ok_weaker, on_err_weaker}
use Rattle.vt_slots.specs.declared.slot.Side.TheVariants.{Outgoing, Incoming}
use Rattle.vt_graph.specs.Held.{Held}
use Rattle.vt_graph.proofs.Linked.Bare.{ends_rise, indexed_same, listings_same}
use Rattle.vt_graph.proofs.Linked.Held.{live_body, room_there, two_ended_either, model_added, model_stays, places_keep}
use Rattle.vt_graph.proofs.Linked.Stored.{listed_link}
use Rattle.vt_graph.proofs.graph.Graph.add_link.Goals as goal

pub add_ends-requires-clause-source : goal.add_ends-requires-clause-source
add_ends-requires-clause-source c = live_body _ _ _ _ c.self.view_is c.self.invariant.0 c.args.link.source c.requires.source

pub add_ends-requires-clause-target : goal.add_ends-requires-clause-target
add_ends-requires-clause-target c = live_body _ _ _ _ c.self.view_is c.self.invariant.0 c.args.link.target c.requires.target

pub add_ends-requires-clause-shape : goal.add_ends-requires-clause-shape
add_ends-requires-clause-shape c = record { rise = ends_rise _ _ _ c.self.invariant.0; fit = c.self.invariant.0.room }

pub add_ends-requires-clause-fresh : goal.add_ends-requires-clause-fresh
add_ends-requires-clause-fresh c there = c.requires.fresh (subst (λ (h : Held). Contains h.model.links c.args.link) c.self.view_is
    (listed_link c.self.inside.slots c.self.invariant.0.numbers_rise (ends_rise _ _ _ c.self.invariant.0) c.args.link there))

pub invariant_of-self : goal.invariant_of-self
invariant_of-self c = (
  indexed_same _ _ c.add_ends.ensures.ends.same _ _ c.self.invariant.0 c.add_ends.ensures.ends.shape.rise c.add_ends.ensures.ends.shape.fit (two_ended_either _ _ c.args.link c.add_ends.result c.add_ends.ensures.added c.add_ends.ensures.unchanged c.self.invariant.0.two_ended),
  c.self.invariant.1,
  listings_same _ _ c.add_ends.ensures.ends.same _ _ c.self.invariant.2,
)

pub returns-clause-added : goal.returns-clause-added
returns-clause-added c = on_ok_weaker c.add_ends.result
    (λ adds. model_added _ _ _ _ _ c.self.view_is c.self.invariant.0 c.add_ends.ensures.ends.same c.add_ends.ensures.ends.shape.rise c.args.link adds) c.add_ends.ensures.added

pub returns-clause-unchanged : goal.returns-clause-unchanged
returns-clause-unchanged c = on_err_weaker c.add_ends.result
    (λ stay. model_stays _ _ _ _ _ c.self.view_is c.self.invariant.0 c.add_ends.ensures.ends.same c.add_ends.ensures.ends.shape.rise stay) c.add_ends.ensures.unchanged

pub returns-clause-room : goal.returns-clause-room
returns-clause-room c = places_keep _ _ _ _ _ c.self.view_is c.self.invariant.0 c.add_ends.ensures.ends.same c.add_ends.ensures.ends.shape.rise c.add_ends.ensures.ends.room

pub returns-clause-succeeds : goal.returns-clause-succeeds
returns-clause-succeeds c source target = c.add_ends.ensures.succeeds
    (room_there _ _ _ _ c.self.view_is c.self.invariant.0 c.args.link.source Outgoing c.args.link.reference source)
    (room_there _ _ _ _ c.self.view_is c.self.invariant.0 c.args.link.target Incoming c.args.link.reference target)
