use Rattle.std.proofs.Common.{take}
use Rattle.vt_store.specs.Inside.Levels.{CollectsLinks}
use Rattle.vt_store.proofs.deletion.collect_links.Given as goal

abbrev pub invariant-loop-x : goal.invariant-loop-x
invariant-loop-x l = CollectsLinks l.graph.model (take l.x-index l.found) l.links.items
