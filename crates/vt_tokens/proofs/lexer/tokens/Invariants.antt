use Rattle.std.proofs.Common.{length}
use Rattle.vt_tokens.specs.Inside.Scanned.{Scanned}
use Rattle.vt_tokens.proofs.lexer.tokens.Given as goal

abbrev pub invariant-each : goal.invariant-each
invariant-each l = Scanned l.text l.tokens l.rest l.at l.line

abbrev pub decreases-each : goal.decreases-each
decreases-each l = length l.rest
