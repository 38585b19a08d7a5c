use Rattle.std.proofs.Common.{◌≡◌, length, map}
use Rattle.vt_session.proofs.NextLemmas.{AreEach}
use Rattle.vt_session.proofs.committing.all_events.Given as goal

-- there is an event for each pattern so far, and each is of its pattern
abbrev pub invariant-loop-number : goal.invariant-loop-number
invariant-loop-number l = record {
  count : length l.events ≡ l.number;
  each : AreEach (map (λ rows. rows.items) l.fn.before) (map (λ rows. rows.items) l.fn.after) l.fn.touched l.events;
}
