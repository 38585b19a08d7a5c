-- The value of an expression over slots, or none.
use Rattle.std.specs.Prelude.{ℕ, List, Option, Some, None, slice_get, option_and_then}
use Rattle.vt_base.specs.declared.value.Value.{Value}
use Rattle.vt_base.specs.declared.value.Value.TheVariants as value
use Rattle.vt_text.specs.declared.expr.Expr.{Expr, Bool, Int, Text, Enum, Slot, Negative', Not', Chain', Row_of-Expr, end_of-Expr, more_of-Expr, Row_of-Operand, end_of-Operand, more_of-Operand}
use Rattle.vt_text.specs.Operators.{negative, negation, applied}

-- the value of a slot, where the slot is there and has one
abbrev pub slot_value : List (Option Value) → ℕ → Option Value
slot_value slots i = option_and_then (λ value. value) (slice_get slots i)

abbrev mutual
  pub value_of : Expr → List (Option Value) → Option Value
  value_of (Bool b) slots = Some (value.Bool b)
  value_of (Int n) slots = Some (value.Int n)
  value_of (Text t) slots = Some (value.Text t)
  value_of (Enum e l) slots = Some (value.Enum e l)
  value_of (Slot i) slots = slot_value slots i
  value_of (Negative' p a) slots = negative (boxed_value a slots)
  value_of (Not' p a) slots = negation (boxed_value a slots)
  value_of (Chain' p first q rest) slots = value_with (boxed_value first slots) rest slots

  -- of operands that follow one with this value, from the left
  pub value_with : Option Value → {m : _} → Row_of-Operand m → List (Option Value) → Option Value
  value_with first end_of-Operand slots = first
  value_with first (more_of-Operand operator e rest) slots = value_with (applied operator first (value_of e slots)) rest slots

  -- of the expression in a box
  pub boxed_value : {m : _} → Row_of-Expr m → List (Option Value) → Option Value
  boxed_value end_of-Expr slots = None
  boxed_value (more_of-Expr e rest) slots = value_of e slots
