-- The levels of operators that chain any number of operands.
use Rattle.std.specs.Prelude.{ℕ}
use Rattle.vt_grammar.specs.Grammar.{Grammar}
use Rattle.vt_text.specs.ExpressionRules.{chain, or_sign, and_sign, sum_sign, product_sign, conjunction, comparison, product}
use Rattle.vt_text.specs.declared.expr.Operator.{Operator}
use Rattle.vt_text.specs.declared.tree.ExprTree.{ExprTree}
use Rattle.vt_text.specs.declared.reader.Level.{Level}
use Rattle.vt_text.specs.declared.reader.Level.TheVariants.{Or, And, Sum, Product}

-- the operators of a level
abbrev pub sign_at : Level → Grammar Operator
sign_at Or = or_sign
sign_at And = and_sign
sign_at Sum = sum_sign
sign_at Product = product_sign

-- its operands
abbrev pub below : Level → Grammar ExprTree → Grammar ExprTree
below Or operand = conjunction operand
below And operand = comparison operand
below Sum operand = product operand
below Product operand = operand

-- the chains of a level
abbrev pub at : Level → Grammar ExprTree → Grammar ExprTree
at level operand = chain (sign_at level) (below level operand)

-- how many calls a level may take until it comes to an operand
abbrev pub rank : Level → ℕ
rank Or = 16
rank And = 12
rank Sum = 4
rank Product = 0
