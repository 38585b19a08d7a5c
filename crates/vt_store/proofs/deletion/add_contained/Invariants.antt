use Rattle.std.proofs.Common.{◌≡◌, ◌++◌, drop}
use Rattle.std.specs.List.{flat_map}
use Rattle.vt_store.specs.Inside.Levels.{contained_in}
use Rattle.vt_store.proofs.deletion.add_contained.Given as goal

abbrev pub invariant-loop-list : goal.invariant-loop-list
invariant-loop-list l = l.found.items ++ flat_map (contained_in l.meta) (drop l.list-index l.lists) ≡ l.fn.found.items ++ flat_map (contained_in l.meta) l.lists
