-- The value of a chain, and its kind, as its operands come.
use Rattle.std.specs.Prelude.{List, [], ◌∷◌, Option}
use Rattle.vt_base.specs.declared.value.Value.{Value}
use Rattle.vt_base.specs.declared.value.Kind.{Kind}
use Rattle.vt_text.specs.declared.expr.Operand.{Operand}
use Rattle.vt_text.specs.Operators.{applied}
use Rattle.vt_text.specs.Expression.{value_of}
use Rattle.vt_text.specs.Kinds.{kind_given, kind_of}

-- the value of operands that follow one with this value
abbrev pub chain_value : Option Value → List Operand → List (Option Value) → Option Value
chain_value first [] slots = first
chain_value first (operand ∷ rest) slots = chain_value (applied operand.operator first (value_of operand.expr slots)) rest slots

-- the kind of operands that follow one of this kind
abbrev pub chain_kind : Option Kind → List Operand → List Kind → Option Kind
chain_kind first [] kinds = first
chain_kind first (operand ∷ rest) kinds = chain_kind (kind_given operand.operator first (kind_of operand.expr kinds)) rest kinds
