use Rattle.std.proofs.Common.{◌≡◌, take, map}
use Rattle.vt_memory.specs.declared.index.Index.{Index}
use Rattle.vt_memory.proofs.memory.Memory.copied_keys.Given as goal

-- the columns of the indexes so far
abbrev pub invariant-loop-index : goal.invariant-loop-index
invariant-loop-index l = l.keys.items ≡ map (λ (index : Index). index.columns) (take l.index-index l.self-inside.indexes.items)
