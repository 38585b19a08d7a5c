use Rattle.std.proofs.Common.{◌+◌, drop, subst, sym, arith}
use Rattle.vt_store.specs.Inside.Levels.{CanBury}
use Rattle.vt_store.proofs.Deleting.Burying.{can_bury_step}
use Rattle.vt_store.proofs.Deleting.Waiting.{buries_more}
use Rattle.vt_store.proofs.deletion.bury_all.Goals as goal

pub loop-x-preserved : goal.loop-x-preserved
loop-x-preserved c =
    let found = c.args.found.now in
    let i = c.loop-x.x-index in
    record {
      steps = buries_more _ _ _ found i _ _ _ c.loop-x-test.true c.loop-x.invariant.steps c.bury.ensures.added;
      bare = subst (λ g. CanBury g (drop (i + 1) found)) (sym c.bury.ensures.added.step.model)
          (can_bury_step c.loop-x.graph.model found i _ c.loop-x-test.true c.loop-x.invariant.bare);
      room = omega (arith, c.loop-x.invariant.room, c.bury.ensures.room);
    }
