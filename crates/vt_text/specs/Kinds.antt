-- The kind of an expression over slots of known kinds, or none.
use Rattle.std.specs.Prelude.{◌≡◌, ℕ, List, Bool as Flag, true, false, ◌==◌, if◌then◌else◌, slice_get, Option, Some, None}
use Rattle.vt_base.specs.declared.value.Value.{Value}
use Rattle.vt_base.specs.declared.value.Value.TheVariants as value
use Rattle.vt_base.specs.declared.value.Kind.{Kind}
use Rattle.vt_base.specs.declared.value.Kind.TheVariants as kind
use Rattle.vt_text.specs.declared.expr.Operator.{Operator}
use Rattle.vt_text.specs.declared.expr.Operator.TheVariants as operator
use Rattle.vt_text.specs.declared.expr.Expr.{Expr, Bool, Int, Text, Enum, Slot, Negative', Not', Chain', Row_of-Expr, end_of-Expr, more_of-Expr, Row_of-Operand, end_of-Operand, more_of-Operand}
use Rattle.vt_text.specs.Expression.{slot_value}

-- whether two kinds are one
abbrev pub is_kind : Kind → Kind → Flag
is_kind kind.Bool kind.Bool = true
is_kind kind.Int kind.Int = true
is_kind kind.Text kind.Text = true
is_kind (kind.Enum d) (kind.Enum e) = d == e
is_kind kind.Obj kind.Obj = true
is_kind k l = false

-- `&&` and `||` take truths, and give one
abbrev pub of_truths : Option Kind → Option Kind → Option Kind
of_truths (Some kind.Bool) (Some kind.Bool) = Some kind.Bool
of_truths k l = None

-- `==` and `!=` take two of one kind
abbrev pub of_one_kind : Option Kind → Option Kind → Option Kind
of_one_kind (Some k) (Some l) = if is_kind k l then Some kind.Bool else None
of_one_kind k l = None

-- arithmetic, and `<` and its kin, take whole numbers
abbrev pub of_numbers : Kind → Option Kind → Option Kind → Option Kind
of_numbers given (Some kind.Int) (Some kind.Int) = Some given
of_numbers given k l = None

-- what an operator gives of operands of these kinds, or none where it doesn't take them
abbrev pub kind_given : Operator → Option Kind → Option Kind → Option Kind
kind_given operator.Or k l = of_truths k l
kind_given operator.And k l = of_truths k l
kind_given operator.Equal k l = of_one_kind k l
kind_given operator.Differ k l = of_one_kind k l
kind_given operator.Less k l = of_numbers kind.Bool k l
kind_given operator.AtMost k l = of_numbers kind.Bool k l
kind_given operator.Greater k l = of_numbers kind.Bool k l
kind_given operator.AtLeast k l = of_numbers kind.Bool k l
kind_given operator.Plus k l = of_numbers kind.Int k l
kind_given operator.Minus k l = of_numbers kind.Int k l
kind_given operator.Times k l = of_numbers kind.Int k l
kind_given operator.Divided k l = of_numbers kind.Int k l
kind_given operator.Remainder k l = of_numbers kind.Int k l

-- unary `-` takes a whole number, and gives one
abbrev pub kind_negative : Option Kind → Option Kind
kind_negative (Some kind.Int) = Some kind.Int
kind_negative k = None

-- `!` takes a truth, and gives one
abbrev pub kind_negation : Option Kind → Option Kind
kind_negation (Some kind.Bool) = Some kind.Bool
kind_negation k = None

abbrev mutual
  pub kind_of : Expr → List Kind → Option Kind
  kind_of (Bool b) kinds = Some kind.Bool
  kind_of (Int n) kinds = Some kind.Int
  kind_of (Text t) kinds = Some kind.Text
  kind_of (Enum e l) kinds = Some (kind.Enum e)
  kind_of (Slot i) kinds = slice_get kinds i
  kind_of (Negative' p a) kinds = kind_negative (boxed_kind a kinds)
  kind_of (Not' p a) kinds = kind_negation (boxed_kind a kinds)
  kind_of (Chain' p first q rest) kinds = kind_with (boxed_kind first kinds) rest kinds

  -- of operands that follow one of this kind, from the left
  pub kind_with : Option Kind → {m : _} → Row_of-Operand m → List Kind → Option Kind
  kind_with first end_of-Operand kinds = first
  kind_with first (more_of-Operand operator e rest) kinds = kind_with (kind_given operator first (kind_of e kinds)) rest kinds

  -- of the expression in a box
  pub boxed_kind : {m : _} → Row_of-Expr m → List Kind → Option Kind
  boxed_kind end_of-Expr kinds = None
  boxed_kind (more_of-Expr e rest) kinds = kind_of e kinds

-- the kind of a value
abbrev pub own_kind : Value → Kind
own_kind (value.Bool b) = kind.Bool
own_kind (value.Int n) = kind.Int
own_kind (value.Text t) = kind.Text
own_kind (value.Enum e l) = kind.Enum e
own_kind (value.Obj o) = kind.Obj

-- a value is of the kind, where both are there
abbrev pub HasKind : Option Kind → Option Value → Type 0
HasKind (Some k) (Some v) = own_kind v ≡ k
HasKind k v = Unit {0}

-- each slot with a kind and a value has one of that kind
abbrev pub AreOfKinds : List Kind → List (Option Value) → Type 0
AreOfKinds kinds values = (i : ℕ) → HasKind (slice_get kinds i) (slot_value values i)
