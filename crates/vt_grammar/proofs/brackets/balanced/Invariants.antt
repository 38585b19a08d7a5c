use Rattle.std.proofs.Common.{◌≡◌, ◌≤◌, ◌-◌, length, take, drop, reverse, []}
use Rattle.vt_grammar.specs.Reading.{scan}
use Rattle.vt_grammar.specs.Gives.{ahead}
use Rattle.vt_grammar.proofs.brackets.balanced.Given as goal

abbrev pub invariant-each : goal.invariant-each
invariant-each l = (l.taken ≤ length l.fn.lexemes) × (ahead (take l.taken l.fn.lexemes) (scan (reverse l.due.items) (drop l.taken l.fn.lexemes)) ≡ scan [] l.fn.lexemes)

abbrev pub decreases-each : goal.decreases-each
decreases-each l = length l.fn.lexemes - l.taken
