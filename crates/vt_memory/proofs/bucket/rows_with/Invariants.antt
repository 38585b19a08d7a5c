use Rattle.std.proofs.Common.{◌≡◌, ◌+◌, ◌++◌, length}
use Rattle.vt_memory.specs.Inside.Indexed.{fitting, found_by}
use Rattle.vt_memory.proofs.bucket.rows_with.Given as goal

-- the rows so far, and those under the keys that are left
abbrev pub invariant-loop-key : goal.invariant-loop-key
invariant-loop-key g l = record {
  rows : l.out.items ++ fitting l.slab l.index.columns l.values l.keys ≡ found_by l.fn.slab l.fn.index l.fn.values;
  ticks : l.steps + length (fitting l.slab l.index.columns l.values l.keys) ≡ l.fn.steps + length (found_by l.fn.slab l.fn.index l.fn.values);
}

abbrev pub decreases-loop-key : goal.decreases-loop-key
decreases-loop-key g l = length l.keys
