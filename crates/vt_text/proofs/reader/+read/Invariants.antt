use Rattle.std.proofs.Common.{◌≡◌, ◌+◌, ◌*◌, length}
use Rattle.vt_grammar.specs.Grammar.{star}
use Rattle.vt_grammar.specs.Reading.{read as reading}
use Rattle.vt_grammar.specs.Gives.{ahead}
use Rattle.vt_text.specs.ExpressionRules.{further, operand}
use Rattle.vt_text.specs.Inside.FactoredLeaf.{leaf}
use Rattle.vt_text.specs.Inside.Levels.{sign_at, below, rank}
use Rattle.vt_text.proofs.reader.+read.Given as goal

-- ---- calls come to an operand, or to one that is less deep

abbrev pub decreases-operand : goal.decreases-operand
decreases-operand l = 24 * l.depth

abbrev pub decreases-below : goal.decreases-below
decreases-below l = 24 * l.depth + rank l.level + 1

abbrev pub decreases-further : goal.decreases-further
decreases-further l = 24 * l.depth + rank l.level + 2

abbrev pub decreases-operands : goal.decreases-operands
decreases-operands l = 24 * l.depth + rank l.level + 3

abbrev pub decreases-chain : goal.decreases-chain
decreases-chain l = 24 * l.depth + rank l.level + 4

abbrev pub decreases-sum : goal.decreases-sum
decreases-sum l = 24 * l.depth + 9

abbrev pub decreases-disjunction : goal.decreases-disjunction
decreases-disjunction l = 24 * l.depth + 21

abbrev pub decreases-compared : goal.decreases-compared
decreases-compared l = 24 * l.depth + 10

abbrev pub decreases-comparison : goal.decreases-comparison
decreases-comparison l = 24 * l.depth + 11

abbrev pub decreases-negative : goal.decreases-negative
decreases-negative l = 24 * l.depth + 1

abbrev pub decreases-negation : goal.decreases-negation
decreases-negation l = 24 * l.depth + 1

abbrev pub decreases-enclosed : goal.decreases-enclosed
decreases-enclosed l = 24 * l.depth + 22

-- ---- what is left of a chain is read behind its operands so far

abbrev pub invariant-operands-each : goal.invariant-operands-each
invariant-operands-each l =
    ahead l.operands.items (reading (star (further (sign_at l.level) (below l.level (operand (leaf l.attributes) l.depth)))) l.rest)
    ≡ reading (star (further (sign_at l.level) (below l.level (operand (leaf l.attributes) l.depth)))) l.fn.lexemes

abbrev pub decreases-operands-each : goal.decreases-operands-each
decreases-operands-each l = length l.rest
