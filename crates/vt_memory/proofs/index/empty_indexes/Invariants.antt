use Rattle.std.proofs.Common.{◌≡◌, ◌++◌, map}
use Rattle.vt_memory.specs.Inside.Indexed.{empty_index}
use Rattle.vt_memory.proofs.index.empty_indexes.Given as goal

-- the indexes so far, and those of the keys that are left
abbrev pub invariant-loop-columns : goal.invariant-loop-columns
invariant-loop-columns l = l.indexes.items ++ map (empty_index l.places l.reach) l.columns-iterator.rest.items ≡ map (empty_index l.fn.places l.fn.reach) l.fn.keys.items
