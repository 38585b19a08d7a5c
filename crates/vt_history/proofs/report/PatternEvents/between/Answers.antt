use Rattle.std.proofs.Common.{◌≡◌, ap}
use Rattle.vt_delta.specs.Deltas.{without}
use Rattle.vt_history.proofs.EventLemmas.{are_created, are_updated}
use Rattle.vt_history.proofs.report.PatternEvents.between.Goals as goal

-- what came was created, what went was deleted, and the rows of both sets that hold a touched object were updated
pub returns-clause-events : goal.returns-clause-events
returns-clause-events c = λ g h touched live_before live_after.
    let old = c.args.before.now.items in
    let new = c.args.after.now.items in
    let came : c.in_ok-delta.delta.added.items ≡ without old new = ap (λ change. change.added) c.in_ok-delta.ensures in
    let went : c.in_ok-delta.delta.removed.items ≡ without new old = ap (λ change. change.removed) c.in_ok-delta.ensures in
    record {
      created = are_created old new c.in_ok-delta.delta.added.items came c.ascends.ensures;
      deleted = are_created new old c.in_ok-delta.delta.removed.items went c.ascends-2.ensures;
      updated = are_updated g h c.args.touched.now touched old new live_before live_after c.in_ok-updated.updated.items c.in_ok-updated.ensures c.ascends-3.ensures;
    }
