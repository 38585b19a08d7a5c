use Rattle.std.proofs.Common.{◌≡◌, ◌≤◌, ◌∷◌, drop}
use Rattle.vt_tokens.specs.Inside.Scan.{is_numeral}
use Rattle.vt_tokens.proofs.piece.starts_number.Given as goal

-- what is left goes on from the number so far
abbrev pub invariant-loop-b : goal.invariant-loop-b
invariant-loop-b l = record {
  goes_on : is_numeral l.number (drop l.b-index l.bytes) ≡ is_numeral 0 (l.fn.first ∷ l.fn.bytes);
  bounded : l.number ≤ 9223372036854775807;
}
