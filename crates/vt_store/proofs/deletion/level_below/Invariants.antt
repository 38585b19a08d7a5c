use Rattle.std.proofs.Common.{◌≡◌, ◌++◌, drop}
use Rattle.vt_store.specs.Inside.Levels.{level_below}
use Rattle.vt_store.proofs.deletion.level_below.Given as goal

abbrev pub invariant-loop-p : goal.invariant-loop-p
invariant-loop-p l = l.below.items ++ level_below l.graph.meta l.graph.model (drop l.p-index l.level) ≡ level_below l.graph.meta l.graph.model l.level
