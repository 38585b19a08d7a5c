use Rattle.std.proofs.Common.{◌≡◌, length, take, drop, map}
use Rattle.vt_memory.specs.Inside.Indexed.{without_entry}
use Rattle.vt_memory.proofs.index.take_all.Given as goal

-- the indexes so far have changed, and the others stand
abbrev pub invariant-loop-i : goal.invariant-loop-i
invariant-loop-i l = record {
  done : take l.i l.indexes.items ≡ map (without_entry l.key l.row) (take l.i l.fn.indexes.items);
  rest : drop l.i l.indexes.items ≡ drop l.i l.fn.indexes.items;
  long : length l.indexes.items ≡ length l.fn.indexes.items;
}
