use Rattle.std.proofs.Common.{get_or, arith, ◌∙◌}
use Rattle.vt_model.specs.declared.model.Link.{Link}
use Rattle.vt_slots.specs.declared.slot.Side.TheVariants.{Outgoing, Incoming}
use Rattle.vt_store.specs.Inside.Displaced.{with_each}
use Rattle.vt_store.proofs.Linking.Anew.{KeepsRoom-then}
use Rattle.vt_store.proofs.Linking.Live.{ends_live_with_each}
use Rattle.vt_store.proofs.Linking.Returning.{returning_fresh_at, returning_target_at, returning_source_at, returning_step_at}
use Rattle.vt_store.proofs.reverting.put_links.Goals as goal

-- past the end of the links
nowhere : Link
nowhere = record { source = record { 0 = 0 }; reference = record { 0 = 0 }; target = record { 0 = 0 } }

-- the next link doesn't stand yet
pub put_link-requires-clause-fresh : goal.put_link-requires-clause-fresh
unfolding nowhere
put_link-requires-clause-fresh c =
    let whole = with_each c.args.graph.now.model c.args.links.now in
    returning_fresh_at whole c.loop-link.graph.model c.args.links.now c.loop-link.link-index nowhere c.loop-link-test.true c.loop-link.invariant.returning

-- at its source there are fewer links yet than the room that was kept for all
pub put_link-requires-clause-out : goal.put_link-requires-clause-out
unfolding nowhere
put_link-requires-clause-out c =
    let whole = with_each c.args.graph.now.model c.args.links.now in
    let i = c.loop-link.link-index in
    let link = get_or c.args.links.now i nowhere in
    let live = ends_live_with_each c.args.graph.now.model link (c.requires.live i nowhere c.loop-link-test.true) c.args.links.now in
    let fewer = returning_target_at whole c.loop-link.graph.model c.args.links.now i nowhere c.loop-link-test.true c.loop-link.invariant.returning in
    let fits = c.requires.room link.source Outgoing link.reference live.source in
    let kept = c.loop-link.invariant.room.room link.source Outgoing link.reference in
    omega (arith, fewer, fits, kept)

-- and at its target
pub put_link-requires-clause-into : goal.put_link-requires-clause-into
unfolding nowhere
put_link-requires-clause-into c =
    let whole = with_each c.args.graph.now.model c.args.links.now in
    let i = c.loop-link.link-index in
    let link = get_or c.args.links.now i nowhere in
    let live = ends_live_with_each c.args.graph.now.model link (c.requires.live i nowhere c.loop-link-test.true) c.args.links.now in
    let fewer = returning_source_at whole c.loop-link.graph.model c.args.links.now i nowhere c.loop-link-test.true c.loop-link.invariant.returning in
    let fits = c.requires.room link.target Incoming link.reference live.target in
    let kept = c.loop-link.invariant.room.room link.target Incoming link.reference in
    omega (arith, fewer, fits, kept)

pub loop-link-preserved : goal.loop-link-preserved
unfolding nowhere
loop-link-preserved c =
    let whole = with_each c.args.graph.now.model c.args.links.now in
    record {
      meta = c.put_link.ensures.meta ∙ c.loop-link.invariant.meta;
      returning = returning_step_at whole c.loop-link.graph.model c.args.links.now c.loop-link.link-index nowhere c.loop-link-test.true c.loop-link.invariant.returning
          c.put_link.new.graph.model c.put_link.ensures.put;
      room = KeepsRoom-then _ _ _ c.loop-link.invariant.room c.put_link.ensures.room;
    }
