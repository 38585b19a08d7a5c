-- The value of a chain over a list, and of what a box holds.
use Rattle.std.proofs.Common.{◌≡◌, List, Option, refl}
use Rattle.vt_base.specs.declared.value.Value.{Value}
use Rattle.vt_text.specs.declared.expr.Expr.{Expr, Row_of-Operand, end_of-Operand, more_of-Operand, items-the_row-Operand}
use Rattle.vt_text.specs.declared.expr.Expr.TheBlock.{hidden-the_row-Expr-0}
use Rattle.vt_text.specs.Operators.{applied}
use Rattle.vt_text.specs.Expression.{value_of, value_with, boxed_value}
use Rattle.vt_text.specs.Inside.Chains.{chain_value}

pub chain_rows : (m : _) (row : Row_of-Operand m) (first : Option Value) (slots : List (Option Value)) → value_with first row slots ≡ chain_value first (items-the_row-Operand m row) slots
chain_rows m end_of-Operand first slots = refl
chain_rows m (more_of-Operand {n = n} operator e row) first slots = chain_rows n row (applied operator first (value_of e slots)) slots

-- a box has the value of what it holds
pub boxed : (e : Expr) (slots : List (Option Value)) → boxed_value (hidden-the_row-Expr-0 e) slots ≡ value_of e slots
unfolding hidden-the_row-Expr-0 denote.Hole.Carrier.hidden
boxed e slots = refl
