use Rattle.std.proofs.Common.{◌≡◌, ◌+◌, drop}
use Rattle.std.specs.List.{prefix_len}
use Rattle.vt_tokens.specs.Lexicon.{is_in_line}
use Rattle.vt_tokens.proofs.piece.line_len.Given as goal

-- no byte so far ends the line
abbrev pub invariant-loop-i : goal.invariant-loop-i
invariant-loop-i l = l.i + prefix_len is_in_line (drop l.i l.bytes) ≡ prefix_len is_in_line l.bytes
