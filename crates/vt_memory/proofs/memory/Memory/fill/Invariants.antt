use Rattle.std.proofs.Common.{◌≡◌, ◌+◌, length}
use Rattle.slab.specs.Slab.{slab_len}
use Rattle.vt_memory.specs.Inside.Indexed.{with_entries, rows_of}
use Rattle.vt_memory.proofs.SetLemmas.{AreNew}
use Rattle.vt_memory.proofs.memory.Memory.fill.Given as goal

-- the rows that are left are new, and with them all have moved; there is room for them
abbrev pub invariant-loop-row : goal.invariant-loop-row
invariant-loop-row l = record {
  can_next : (goal.iterator-loop-row).can_next l.row-iterator;
  is_finite : (goal.iterator-loop-row).is_finite l.row-iterator;
  new : AreNew l.self.rows l.row-iterator;
  rows : with_entries l.self.rows l.row-iterator ≡ rows_of l.fn.slab;
  keys : l.self.keys ≡ l.fn.self.keys;
  room : l.self.spare + slab_len l.fn.slab ≡ l.fn.self.spare + length l.row-iterator;
}
