-- The value that an operator gives of the values of its operands, or none.
use Rattle.std.specs.Prelude.{zero, ℤ, ◌+ℤ◌, ◌-ℤ◌, ◌*ℤ◌, neg_ℤ, pos, negsuc, ◌^◌, Bool as Flag, true, false, not, ◌==◌, nat_eq, nat_lt, int_lt, int_le, int_div, int_rem, if◌then◌else◌, Option, Some, None, option_map}
use Rattle.std.specs.Ordering.{int_eq}
use Rattle.std.specs.Cmp.Lexicographic.{pointwise}
use Rattle.vt_base.specs.declared.value.Value.{Value}
use Rattle.vt_base.specs.declared.value.Value.TheVariants.{Bool, Int, Text, Enum, Obj}
use Rattle.vt_text.specs.declared.expr.Operator.{Operator}
use Rattle.vt_text.specs.declared.expr.Operator.TheVariants.{Or, And, Equal, Differ, Less, AtMost, Greater, AtLeast, Plus, Minus, Times, Divided, Remainder}

-- a whole number as a value: none outside 64 bits
abbrev pub an_int : ℤ → Option Value
an_int (pos n) = if nat_lt n (2 ^ 63) then Some (Int (pos n)) else None
an_int (negsuc n) = if nat_lt n (2 ^ 63) then Some (Int (negsuc n)) else None

-- a truth as a value
abbrev pub a_flag : Flag → Option Value
a_flag b = Some (Bool b)

-- nothing is divided by zero; a quotient is rounded toward zero, and a remainder has the sign of
-- what is divided
abbrev pub quotient : ℤ → ℤ → Option Value
quotient x (pos zero) = None
quotient x y = an_int (int_div x y)

abbrev pub remainder : ℤ → ℤ → Option Value
remainder x (pos zero) = None
remainder x y = an_int (int_rem x y)

-- whether two truths are one
abbrev pub same_flag : Flag → Flag → Flag
same_flag true b = b
same_flag false b = not b

-- whether two values of one kind are equal
abbrev pub equality : Value → Value → Option Flag
equality (Bool a) (Bool b) = Some (same_flag a b)
equality (Int a) (Int b) = Some (int_eq a b)
equality (Text a) (Text b) = Some (pointwise nat_eq a b)
equality (Enum a l) (Enum b m) = if a == b then Some (l == m) else None
equality (Obj a) (Obj b) = Some (a.0 == b.0)
equality x y = None

-- whether two operands are, where both have values
abbrev pub equal : Option Value → Option Value → Option Flag
equal (Some x) (Some y) = equality x y
equal x y = None

-- what is made of two whole numbers, and none of other values
abbrev pub of_ints : (ℤ → ℤ → Option Value) → Option Value → Option Value → Option Value
of_ints make (Some (Int x)) (Some (Int y)) = make x y
of_ints make x y = None

-- from left to right: where the first is false the second may be anything
abbrev pub both_hold : Option Value → Option Value → Option Value
both_hold (Some (Bool false)) y = a_flag false
both_hold (Some (Bool true)) (Some (Bool b)) = a_flag b
both_hold x y = None

-- and where it is true
abbrev pub either_holds : Option Value → Option Value → Option Value
either_holds (Some (Bool true)) y = a_flag true
either_holds (Some (Bool false)) (Some (Bool b)) = a_flag b
either_holds x y = None

-- unary `-`
abbrev pub negative : Option Value → Option Value
negative (Some (Int x)) = an_int (neg_ℤ x)
negative x = None

-- `!`
abbrev pub negation : Option Value → Option Value
negation (Some (Bool b)) = a_flag (not b)
negation x = None

-- what an operator gives of two whole numbers; the others take no numbers alone
abbrev pub on_ints : Operator → ℤ → ℤ → Option Value
on_ints Less x y = a_flag (int_lt x y)
on_ints AtMost x y = a_flag (int_le x y)
on_ints Greater x y = a_flag (int_lt y x)
on_ints AtLeast x y = a_flag (int_le y x)
on_ints Plus x y = an_int (x +ℤ y)
on_ints Minus x y = an_int (x -ℤ y)
on_ints Times x y = an_int (x *ℤ y)
on_ints Divided x y = quotient x y
on_ints Remainder x y = remainder x y
on_ints operator x y = None

-- what an operator gives of any two operands
abbrev pub applied : Operator → Option Value → Option Value → Option Value
applied Or x y = either_holds x y
applied And x y = both_hold x y
applied Equal x y = option_map Bool (equal x y)
applied Differ x y = option_map (λ b. Bool (not b)) (equal x y)
applied operator x y = of_ints (on_ints operator) x y
