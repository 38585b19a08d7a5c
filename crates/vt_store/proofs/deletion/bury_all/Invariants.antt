use Rattle.std.proofs.Common.{◌≤◌, ◌+◌, drop, take, length}
use Rattle.vt_store.specs.Inside.Levels.{CanBury}
use Rattle.vt_store.specs.Inside.Waiting.{BuriesAll}
use Rattle.vt_store.proofs.deletion.bury_all.Given as goal

abbrev pub invariant-loop-x : goal.invariant-loop-x
invariant-loop-x l = record {
  steps : BuriesAll l.fn.graph (take l.x-index l.found) l.waiting.items l.graph;
  bare : CanBury l.graph.model (drop l.x-index l.found);
  room : length l.found ≤ l.waiting.spare + l.x-index;
}
