use Rattle.std.proofs.Common.{◌≡◌, ◌+◌, length}
use Rattle.vt_tokens.specs.Inside.Scan.{string_end, plus}
use Rattle.vt_tokens.proofs.piece.string_len.Given as goal

-- the string ends where it ends in what is left
abbrev pub invariant-each : goal.invariant-each
invariant-each l = record {
  goes_on : plus l.n (string_end l.rest) ≡ string_end l.fn.bytes;
  counted : l.n + length l.rest ≡ length l.fn.bytes;
}

abbrev pub decreases-each : goal.decreases-each
decreases-each l = length l.rest
