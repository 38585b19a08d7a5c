use Rattle.std.proofs.Common.{◌≡◌, ◌+◌, drop}
use Rattle.std.specs.List.{prefix_len}
use Rattle.vt_tokens.specs.Lexicon.{goes_on}
use Rattle.vt_tokens.proofs.piece.run_len.Given as goal

-- all bytes so far go on
abbrev pub invariant-loop-i : goal.invariant-loop-i
invariant-loop-i l = l.i + prefix_len goes_on (drop l.i l.bytes) ≡ prefix_len goes_on l.bytes
