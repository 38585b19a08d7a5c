use Rattle.std.proofs.Common.{◌≡◌, ◌+◌, length}
use Rattle.vt_tokens.specs.Inside.Scan.{comment_end, plus}
use Rattle.vt_tokens.proofs.piece.comment_len.Given as goal

-- the comment ends where it ends in what is left
abbrev pub invariant-each : goal.invariant-each
invariant-each l = record {
  goes_on : plus l.n (comment_end l.rest) ≡ comment_end l.fn.bytes;
  counted : l.n + length l.rest ≡ length l.fn.bytes;
}

abbrev pub decreases-each : goal.decreases-each
decreases-each l = length l.rest
