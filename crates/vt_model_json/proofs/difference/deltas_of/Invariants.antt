use Rattle.std.proofs.Common.{◌≡◌, length}
use Rattle.vt_model_json.specs.Difference.{AreAllAdded}
use Rattle.vt_model_json.specs.Inside.Parts.{rows_of}
use Rattle.vt_model_json.proofs.difference.deltas_of.Given as goal

-- there is a delta for each number so far, with all its rows
abbrev pub invariant-loop-n : goal.invariant-loop-n
invariant-loop-n g l = record {
  count : length l.deltas ≡ l.n;
  rows : AreAllAdded (rows_of l.part (g.B.Base.rows l.base)) l.deltas;
}
