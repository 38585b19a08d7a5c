-- The kind of a chain over a list and of what a box holds, and that values have the kind.
use Rattle.std.proofs.Common.{ℕ, zero, suc, ℤ, pos, negsuc, ◌≡◌, ◌⊎◌, inl, inr, Bool as Flag, true, false, if◌then◌else◌, List, slice_get, Option, Some, None, refl, sym, subst}
use Rattle.std.specs.Prelude.{option_map, not, int_div, int_rem, neg_ℤ, ◌+ℤ◌, ◌-ℤ◌, ◌*ℤ◌}
use Rattle.vt_base.specs.declared.value.Value.{Value}
use Rattle.vt_base.specs.declared.value.Value.TheVariants as value
use Rattle.vt_base.specs.declared.value.Kind.{Kind}
use Rattle.vt_base.specs.declared.value.Kind.TheVariants as kind
use Rattle.vt_text.specs.declared.expr.Operator.{Operator}
use Rattle.vt_text.specs.declared.expr.Operator.TheVariants as operator
use Rattle.vt_text.specs.declared.expr.Expr.{Expr, Bool, Int, Text, Enum, Slot, Negative', Not', Chain', Row_of-Expr, end_of-Expr, more_of-Expr, Row_of-Operand, end_of-Operand, more_of-Operand, items-the_row-Operand}
use Rattle.vt_text.specs.declared.expr.Expr.TheBlock.{hidden-the_row-Expr-0}
use Rattle.vt_text.specs.Operators.{an_int, a_flag, quotient, remainder, of_ints, both_hold, either_holds, negative, negation, on_ints, equal, applied}
use Rattle.vt_text.specs.Expression.{slot_value, value_of, value_with, boxed_value}
use Rattle.vt_text.specs.Kinds.{is_kind, of_truths, of_one_kind, of_numbers, kind_given, kind_negative, kind_negation, kind_of, kind_with, boxed_kind, own_kind, HasKind, AreOfKinds}
use Rattle.vt_text.specs.Inside.Chains.{chain_kind}

-- ---- chains and boxes

pub chain_rows : (m : _) (row : Row_of-Operand m) (first : Option Kind) (kinds : List Kind) → kind_with first row kinds ≡ chain_kind first (items-the_row-Operand m row) kinds
chain_rows m end_of-Operand first kinds = refl
chain_rows m (more_of-Operand {n = n} operator e row) first kinds = chain_rows n row (kind_given operator first (kind_of e kinds)) kinds

-- a box has the kind of what it holds
pub boxed : (e : Expr) (kinds : List Kind) → boxed_kind (hidden-the_row-Expr-0 e) kinds ≡ kind_of e kinds
unfolding hidden-the_row-Expr-0 denote.Hole.Carrier.hidden
boxed e kinds = refl

-- ---- what an operator gives has one kind, whatever its operands are

abbrev OfKind : Kind → Option Value → Type 0
OfKind k None = Unit {0}
OfKind k (Some v) = own_kind v ≡ k

if_of_kind : (b : Flag) (k : Kind) (v : Value) → own_kind v ≡ k → OfKind k (if b then Some v else None)
if_of_kind true k v h = h
if_of_kind false k v h = tt

an_int_kind : (z : ℤ) → OfKind kind.Int (an_int z)
an_int_kind (pos n) = if_of_kind _ kind.Int (value.Int (pos n)) refl
an_int_kind (negsuc n) = if_of_kind _ kind.Int (value.Int (negsuc n)) refl

quotient_kind : (x y : ℤ) → OfKind kind.Int (quotient x y)
quotient_kind x (pos zero) = tt
quotient_kind x (pos (suc n)) = an_int_kind (int_div x (pos (suc n)))
quotient_kind x (negsuc n) = an_int_kind (int_div x (negsuc n))

remainder_kind : (x y : ℤ) → OfKind kind.Int (remainder x y)
remainder_kind x (pos zero) = tt
remainder_kind x (pos (suc n)) = an_int_kind (int_rem x (pos (suc n)))
remainder_kind x (negsuc n) = an_int_kind (int_rem x (negsuc n))

of_ints_kind : (k : Kind) (make : ℤ → ℤ → Option Value) → ((x y : ℤ) → OfKind k (make x y)) → (x y : Option Value) → OfKind k (of_ints make x y)
of_ints_kind k make h None y = tt
of_ints_kind k make h (Some (value.Bool b)) y = tt
of_ints_kind k make h (Some (value.Text t)) y = tt
of_ints_kind k make h (Some (value.Enum e l)) y = tt
of_ints_kind k make h (Some (value.Obj o)) y = tt
of_ints_kind k make h (Some (value.Int m)) None = tt
of_ints_kind k make h (Some (value.Int m)) (Some (value.Bool b)) = tt
of_ints_kind k make h (Some (value.Int m)) (Some (value.Text t)) = tt
of_ints_kind k make h (Some (value.Int m)) (Some (value.Enum e l)) = tt
of_ints_kind k make h (Some (value.Int m)) (Some (value.Obj o)) = tt
of_ints_kind k make h (Some (value.Int m)) (Some (value.Int n)) = h m n

both_kind : (x y : Option Value) → OfKind kind.Bool (both_hold x y)
both_kind None y = tt
both_kind (Some (value.Int m)) y = tt
both_kind (Some (value.Text t)) y = tt
both_kind (Some (value.Enum e l)) y = tt
both_kind (Some (value.Obj o)) y = tt
both_kind (Some (value.Bool false)) y = refl
both_kind (Some (value.Bool true)) None = tt
both_kind (Some (value.Bool true)) (Some (value.Int m)) = tt
both_kind (Some (value.Bool true)) (Some (value.Text t)) = tt
both_kind (Some (value.Bool true)) (Some (value.Enum e l)) = tt
both_kind (Some (value.Bool true)) (Some (value.Obj o)) = tt
both_kind (Some (value.Bool true)) (Some (value.Bool b)) = refl

either_kind : (x y : Option Value) → OfKind kind.Bool (either_holds x y)
either_kind None y = tt
either_kind (Some (value.Int m)) y = tt
either_kind (Some (value.Text t)) y = tt
either_kind (Some (value.Enum e l)) y = tt
either_kind (Some (value.Obj o)) y = tt
either_kind (Some (value.Bool true)) y = refl
either_kind (Some (value.Bool false)) None = tt
either_kind (Some (value.Bool false)) (Some (value.Int m)) = tt
either_kind (Some (value.Bool false)) (Some (value.Text t)) = tt
either_kind (Some (value.Bool false)) (Some (value.Enum e l)) = tt
either_kind (Some (value.Bool false)) (Some (value.Obj o)) = tt
either_kind (Some (value.Bool false)) (Some (value.Bool b)) = refl

negative_kind : (x : Option Value) → OfKind kind.Int (negative x)
negative_kind None = tt
negative_kind (Some (value.Bool b)) = tt
negative_kind (Some (value.Int m)) = an_int_kind (neg_ℤ m)
negative_kind (Some (value.Text t)) = tt
negative_kind (Some (value.Enum e l)) = tt
negative_kind (Some (value.Obj o)) = tt

negation_kind : (x : Option Value) → OfKind kind.Bool (negation x)
negation_kind None = tt
negation_kind (Some (value.Bool b)) = refl
negation_kind (Some (value.Int m)) = tt
negation_kind (Some (value.Text t)) = tt
negation_kind (Some (value.Enum e l)) = tt
negation_kind (Some (value.Obj o)) = tt

equal_kind : (o : Option Flag) → OfKind kind.Bool (option_map value.Bool o)
equal_kind None = tt
equal_kind (Some b) = refl

differ_kind : (o : Option Flag) → OfKind kind.Bool (option_map (λ b. value.Bool (not b)) o)
differ_kind None = tt
differ_kind (Some b) = refl

-- the kind of what an operator gives
given_by : Operator → Kind
given_by operator.Plus = kind.Int
given_by operator.Minus = kind.Int
given_by operator.Times = kind.Int
given_by operator.Divided = kind.Int
given_by operator.Remainder = kind.Int
given_by o = kind.Bool

applied_kind : (o : Operator) (x y : Option Value) → OfKind (given_by o) (applied o x y)
unfolding given_by
applied_kind operator.Or x y = either_kind x y
applied_kind operator.And x y = both_kind x y
applied_kind operator.Equal x y = equal_kind (equal x y)
applied_kind operator.Differ x y = differ_kind (equal x y)
applied_kind operator.Less x y = of_ints_kind kind.Bool (on_ints operator.Less) (λ m n. refl) x y
applied_kind operator.AtMost x y = of_ints_kind kind.Bool (on_ints operator.AtMost) (λ m n. refl) x y
applied_kind operator.Greater x y = of_ints_kind kind.Bool (on_ints operator.Greater) (λ m n. refl) x y
applied_kind operator.AtLeast x y = of_ints_kind kind.Bool (on_ints operator.AtLeast) (λ m n. refl) x y
applied_kind operator.Plus x y = of_ints_kind kind.Int (on_ints operator.Plus) (λ m n. an_int_kind (m +ℤ n)) x y
applied_kind operator.Minus x y = of_ints_kind kind.Int (on_ints operator.Minus) (λ m n. an_int_kind (m -ℤ n)) x y
applied_kind operator.Times x y = of_ints_kind kind.Int (on_ints operator.Times) (λ m n. an_int_kind (m *ℤ n)) x y
applied_kind operator.Divided x y = of_ints_kind kind.Int (on_ints operator.Divided) quotient_kind x y
applied_kind operator.Remainder x y = of_ints_kind kind.Int (on_ints operator.Remainder) remainder_kind x y

-- ---- and so has the kind that it is said to give

-- none, or this one
abbrev AtMost : Kind → Option Kind → Type 0
AtMost k None = Unit {0}
AtMost k (Some l) = l ≡ k

truths_give : (k l : Option Kind) → AtMost kind.Bool (of_truths k l)
truths_give None l = tt
truths_give (Some kind.Int) l = tt
truths_give (Some kind.Text) l = tt
truths_give (Some (kind.Enum e)) l = tt
truths_give (Some kind.Obj) l = tt
truths_give (Some kind.Bool) None = tt
truths_give (Some kind.Bool) (Some kind.Bool) = refl
truths_give (Some kind.Bool) (Some kind.Int) = tt
truths_give (Some kind.Bool) (Some kind.Text) = tt
truths_give (Some kind.Bool) (Some (kind.Enum e)) = tt
truths_give (Some kind.Bool) (Some kind.Obj) = tt

if_gives : (b : Flag) → AtMost kind.Bool (if b then Some kind.Bool else None)
if_gives true = refl
if_gives false = tt

one_kind_gives : (k l : Option Kind) → AtMost kind.Bool (of_one_kind k l)
one_kind_gives None l = tt
one_kind_gives (Some k) None = tt
one_kind_gives (Some k) (Some l) = if_gives (is_kind k l)

numbers_give : (g : Kind) (k l : Option Kind) → AtMost g (of_numbers g k l)
numbers_give g None l = tt
numbers_give g (Some kind.Bool) l = tt
numbers_give g (Some kind.Text) l = tt
numbers_give g (Some (kind.Enum e)) l = tt
numbers_give g (Some kind.Obj) l = tt
numbers_give g (Some kind.Int) None = tt
numbers_give g (Some kind.Int) (Some kind.Bool) = tt
numbers_give g (Some kind.Int) (Some kind.Int) = refl
numbers_give g (Some kind.Int) (Some kind.Text) = tt
numbers_give g (Some kind.Int) (Some (kind.Enum e)) = tt
numbers_give g (Some kind.Int) (Some kind.Obj) = tt

operator_gives : (o : Operator) (k l : Option Kind) → AtMost (given_by o) (kind_given o k l)
unfolding given_by
operator_gives operator.Or k l = truths_give k l
operator_gives operator.And k l = truths_give k l
operator_gives operator.Equal k l = one_kind_gives k l
operator_gives operator.Differ k l = one_kind_gives k l
operator_gives operator.Less k l = numbers_give kind.Bool k l
operator_gives operator.AtMost k l = numbers_give kind.Bool k l
operator_gives operator.Greater k l = numbers_give kind.Bool k l
operator_gives operator.AtLeast k l = numbers_give kind.Bool k l
operator_gives operator.Plus k l = numbers_give kind.Int k l
operator_gives operator.Minus k l = numbers_give kind.Int k l
operator_gives operator.Times k l = numbers_give kind.Int k l
operator_gives operator.Divided k l = numbers_give kind.Int k l
operator_gives operator.Remainder k l = numbers_give kind.Int k l

negative_gives : (k : Option Kind) → AtMost kind.Int (kind_negative k)
negative_gives None = tt
negative_gives (Some kind.Bool) = tt
negative_gives (Some kind.Int) = refl
negative_gives (Some kind.Text) = tt
negative_gives (Some (kind.Enum e)) = tt
negative_gives (Some kind.Obj) = tt

negation_gives : (k : Option Kind) → AtMost kind.Bool (kind_negation k)
negation_gives None = tt
negation_gives (Some kind.Bool) = refl
negation_gives (Some kind.Int) = tt
negation_gives (Some kind.Text) = tt
negation_gives (Some (kind.Enum e)) = tt
negation_gives (Some kind.Obj) = tt

joined : (g : Kind) (k : Option Kind) (v : Option Value) → AtMost g k → OfKind g v → HasKind k v
joined g None v a o = tt
joined g (Some k) None a o = tt
joined g (Some k) (Some v) a o = subst (λ l. own_kind v ≡ l) (sym a) o

-- ---- every value has the kind of its expression

mutual
  pub has_kind : (e : Expr) (kinds : List Kind) (values : List (Option Value)) → AreOfKinds kinds values → HasKind (kind_of e kinds) (value_of e values)
  has_kind (Bool b) kinds values h = refl
  has_kind (Int n) kinds values h = refl
  has_kind (Text t) kinds values h = refl
  has_kind (Enum e l) kinds values h = refl
  has_kind (Slot i) kinds values h = h i
  has_kind (Negative' p a) kinds values h = joined kind.Int (kind_negative (boxed_kind a kinds)) (negative (boxed_value a values)) (negative_gives (boxed_kind a kinds)) (negative_kind (boxed_value a values))
  has_kind (Not' p a) kinds values h = joined kind.Bool (kind_negation (boxed_kind a kinds)) (negation (boxed_value a values)) (negation_gives (boxed_kind a kinds)) (negation_kind (boxed_value a values))
  has_kind (Chain' p first q rest) kinds values h = chain_has_kind rest (boxed_kind first kinds) (boxed_value first values) kinds values h (box_has_kind first kinds values h)

  chain_has_kind : {m : _} (rest : Row_of-Operand m) (k : Option Kind) (v : Option Value) (kinds : List Kind) (values : List (Option Value)) → AreOfKinds kinds values → HasKind k v → HasKind (kind_with k rest kinds) (value_with v rest values)
  chain_has_kind end_of-Operand k v kinds values h w = w
  chain_has_kind (more_of-Operand o e rest) k v kinds values h w =
      chain_has_kind rest (kind_given o k (kind_of e kinds)) (applied o v (value_of e values)) kinds values h
      (joined (given_by o) (kind_given o k (kind_of e kinds)) (applied o v (value_of e values)) (operator_gives o k (kind_of e kinds)) (applied_kind o v (value_of e values)))

  box_has_kind : {m : _} (a : Row_of-Expr m) (kinds : List Kind) (values : List (Option Value)) → AreOfKinds kinds values → HasKind (boxed_kind a kinds) (boxed_value a values)
  box_has_kind end_of-Expr kinds values h = tt
  box_has_kind (more_of-Expr e rest) kinds values h = has_kind e kinds values h
