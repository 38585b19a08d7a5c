use Rattle.std.proofs.Common.{◌≡◌, length, take, drop, map}
use Rattle.vt_memory.specs.Inside.Indexed.{with_entry}
use Rattle.vt_memory.proofs.index.put_all.Given as goal

-- the indexes so far have changed, and the others stand
abbrev pub invariant-loop-i : goal.invariant-loop-i
invariant-loop-i l = record {
  done : take l.i l.indexes.items ≡ map (with_entry l.key l.row) (take l.i l.fn.indexes.items);
  rest : drop l.i l.indexes.items ≡ drop l.i l.fn.indexes.items;
  long : length l.indexes.items ≡ length l.fn.indexes.items;
}
