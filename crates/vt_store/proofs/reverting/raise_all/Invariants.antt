use Rattle.std.proofs.Common.{◌≡◌, length}
use Rattle.vt_graph.specs.Room.{KeepsRoom}
use Rattle.vt_store.specs.Inside.Kept.{raised_back, CanRaise}
use Rattle.vt_store.proofs.Reverted.Raised.{places_with}
use Rattle.vt_store.proofs.reverting.raise_all.Given as goal

-- those that still wait can come back, make of the model what it is to be, and no room was lost
abbrev pub invariant-loop-buried : goal.invariant-loop-buried
invariant-loop-buried l = record {
  can : CanRaise l.graph l.waiting;
  meta : l.graph.meta ≡ l.fn.graph.meta;
  raised : raised_back l.graph.model l.waiting ≡ raised_back l.fn.graph.model l.fn.deleted;
  room : KeepsRoom (places_with l.fn.deleted l.fn.graph.places) (places_with l.waiting l.graph.places);
}

-- one fewer waits
abbrev pub decreases-loop-buried : goal.decreases-loop-buried
decreases-loop-buried l = length l.waiting
