use Rattle.std.proofs.Common.{◌-◌, ◌≤◌, length, take, drop}
use Rattle.vt_sorted.specs.Inside.Places.{AllMeet, NoneMeet}
use Rattle.vt_sorted.proofs.front.end_of.Given as goal

abbrev pub invariant-loop-low : goal.invariant-loop-low
invariant-loop-low g l = record {
  ordered : l.low ≤ l.high;
  in_range : l.high ≤ length l.items;
  before : AllMeet (g.F.Front.holds l.front) (take l.low l.items);
  after : NoneMeet (g.F.Front.holds l.front) (drop l.high l.items);
}

abbrev pub decreases-loop-low : goal.decreases-loop-low
decreases-loop-low g l = l.high - l.low
