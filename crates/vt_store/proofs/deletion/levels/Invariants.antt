use Rattle.std.proofs.Common.{◌≡◌, [], ◌∷◌, ◌-◌, ◌++◌}
use Rattle.vt_store.specs.Inside.Levels.{levels_from}
use Rattle.vt_store.proofs.deletion.levels.Given as goal

abbrev pub invariant-loop : goal.invariant-loop
invariant-loop l = l.found.items ++ levels_from l.graph.meta l.graph.model (l.count - l.counter) l.level.items ≡ levels_from l.graph.meta l.graph.model l.count (l.fn.o ∷ [])
