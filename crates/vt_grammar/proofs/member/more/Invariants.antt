use Rattle.std.proofs.Common.{◌≡◌, length}
use Rattle.vt_grammar.specs.Grammar.{star}
use Rattle.vt_grammar.specs.Reading.{read}
use Rattle.vt_grammar.specs.Gives.{ahead}
use Rattle.vt_grammar.proofs.member.more.Given as goal

abbrev pub invariant-each : goal.invariant-each
invariant-each g l = ahead l.all (read (star g.M.Member.grammar) l.rest) ≡ ahead l.fn.before (read (star g.M.Member.grammar) l.fn.lexemes)

abbrev pub decreases-each : goal.decreases-each
decreases-each g l = length l.rest
