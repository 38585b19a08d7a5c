use Rattle.std.proofs.Common.{◌≡◌, ◌++◌, drop}
use Rattle.std.specs.List.{filter_map}
use Rattle.vt_store.specs.Inside.Levels.{value_of}
use Rattle.vt_store.proofs.deletion.add_places.Given as goal

abbrev pub invariant-loop-place : goal.invariant-loop-place
invariant-loop-place l = l.values.items ++ filter_map (value_of l.x) (drop l.place-index l.places) ≡ l.fn.values.items ++ filter_map (value_of l.x) l.places
