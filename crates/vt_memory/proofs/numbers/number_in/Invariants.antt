use Rattle.std.proofs.Common.{◌≡◌, drop, fold}
use Rattle.std.specs.Prelude.{slice_get}
use Rattle.vt_memory.specs.Inside.Numbers.{with_cell, number_in}
use Rattle.vt_memory.proofs.numbers.number_in.Given as goal

-- the columns that are left give the rest of the number
abbrev pub invariant-loop-column : goal.invariant-loop-column
invariant-loop-column l = fold (λ number column. with_cell number (slice_get l.row column)) l.number (drop l.column-index l.columns) ≡ number_in l.fn.columns l.fn.row
