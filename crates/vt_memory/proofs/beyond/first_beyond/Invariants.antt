use Rattle.std.proofs.Common.{◌≡◌, ◌+◌, not, length}
use Rattle.std.specs.List.{filter, find}
use Rattle.vt_base.specs.Rows.{has_row}
use Rattle.vt_memory.specs.Inside.Indexed.{fitting, found_by}
use Rattle.vt_memory.proofs.beyond.first_beyond.Given as goal

-- no row so far was one that isn't given
abbrev pub invariant-loop-key : goal.invariant-loop-key
invariant-loop-key g l = record {
  row : find (λ row. not (has_row l.given.items row)) (fitting l.slab l.index.columns l.values l.keys) ≡ find (λ row. not (has_row l.fn.given.items row)) (found_by l.fn.slab l.fn.index l.fn.values);
  few : l.steps + length (fitting l.slab l.index.columns l.values l.keys) ≡ l.fn.steps + length (found_by l.fn.slab l.fn.index l.fn.values);
  ticks : l.steps + length (filter (λ row. has_row l.given.items row) (fitting l.slab l.index.columns l.values l.keys)) ≡ l.fn.steps + length (filter (λ row. has_row l.fn.given.items row) (found_by l.fn.slab l.fn.index l.fn.values));
}

abbrev pub decreases-loop-key : goal.decreases-loop-key
decreases-loop-key g l = length l.keys
