use Rattle.std.proofs.Common.{◌≡◌, map}
use Rattle.std.specs.List.{range_with_len}
use Rattle.vt_model.specs.Inside.Tables.{above_row}
use Rattle.vt_model.proofs.above.above_table.Given as goal

abbrev pub invariant-loop-class : goal.invariant-loop-class
invariant-loop-class l = l.rows ≡ map (above_row l.supers) (range_with_len 0 l.class)
