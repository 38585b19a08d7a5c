use Rattle.std.proofs.Common.{◌≡◌, ◌++◌, drop}
use Rattle.std.specs.List.{flat_map}
use Rattle.vt_store.specs.Inside.Levels.{values_of}
use Rattle.vt_store.proofs.deletion.collect_values.Given as goal

abbrev pub invariant-loop-x : goal.invariant-loop-x
invariant-loop-x l = l.values.items ++ flat_map (values_of l.graph.model) (drop l.x-index l.found) ≡ flat_map (values_of l.graph.model) l.found
