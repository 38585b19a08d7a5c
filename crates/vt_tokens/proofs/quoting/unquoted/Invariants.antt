use Rattle.std.proofs.Common.{◌≡◌, length, string_bytes}
use Rattle.std.specs.Str.Iter.{chars_rest}
use Rattle.vt_facts.specs.Parts.{with_front}
use Rattle.vt_tokens.specs.Quoting.{unquoted}
use Rattle.vt_tokens.proofs.quoting.unquoted.Given as goal

-- the text so far stands before that of what is left
abbrev pub invariant-each : goal.invariant-each
invariant-each l = with_front (string_bytes l.text) (unquoted (chars_rest l.rest)) ≡ unquoted l.bytes

abbrev pub decreases-each : goal.decreases-each
decreases-each l = length (chars_rest l.rest)
