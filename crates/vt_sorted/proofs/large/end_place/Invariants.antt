use Rattle.std.proofs.Common.{◌≡◌, ◌-◌, ◌<◌, ◌≤◌, [], false, length, get_or, take, drop}
use Rattle.vt_sorted.specs.Inside.Places.{AllMeet, NoneMeet}
use Rattle.vt_sorted.specs.Inside.Pieces.{joined, begins_after}
use Rattle.vt_sorted.proofs.large.end_place.Given as goal

abbrev pub invariant-loop-low : goal.invariant-loop-low
invariant-loop-low g l = record {
  ordered : l.low ≤ l.high;
  in_range : l.high ≤ length l.chunks;
  before : AllMeet (g.F.Front.holds l.front) (joined (take (l.low - 1) l.chunks));
  begins : 0 < l.low → begins_after (g.F.Front.holds l.front) (get_or l.chunks (l.low - 1) []) ≡ false;
  after : NoneMeet (g.F.Front.holds l.front) (joined (drop l.high l.chunks));
}

abbrev pub decreases-loop-low : goal.decreases-loop-low
decreases-loop-low g l = l.high - l.low
