-- The grammar of expressions.
use Rattle.std.specs.Prelude.{ℕ, zero, suc, List, [], ◌∷◌, Bool, true, false, Option, Some, None}
use Rattle.vt_grammar.specs.declared.symbol.Symbol.{Symbol}
use Rattle.vt_grammar.specs.declared.symbol.Symbol.TheVariants as symbol
use Rattle.vt_grammar.specs.Grammar.{Grammar, token, alt, star, made}
use Rattle.vt_grammar.specs.Forms.{◌&◌, maybe}
use Rattle.vt_tokens.specs.Words.{identifier, feature_name, number, string}
use Rattle.vt_text.specs.declared.expr.Operator.{Operator}
use Rattle.vt_text.specs.declared.expr.Operator.TheVariants as operator
use Rattle.vt_text.specs.declared.tree.Slot.{Slot}
use Rattle.vt_text.specs.declared.tree.ExprTree.{ExprTree}
use Rattle.vt_text.specs.declared.tree.ExprTree.TheVariants as tree
use Rattle.vt_text.specs.declared.tree.OperandTree.{OperandTree}

-- ---- what stands alone

-- "true" | "false"
abbrev pub truth : Grammar Bool
truth = alt (made (λ _. true) (token symbol.True)) (made (λ _. false) (token symbol.False))

-- ID "::" ID
abbrev pub literal : Grammar ExprTree
literal = made (λ x. tree.Literal x.0 x.1.1) (identifier & token symbol.DoubleColon & feature_name)

-- ID
abbrev pub variable : Grammar ExprTree
variable = made (λ name. tree.Slot (record { name = name; attr = None })) identifier

-- ID "." ID
abbrev pub attribute : Grammar ExprTree
attribute = made (λ x. tree.Slot (record { name = x.0; attr = Some x.1.1 })) (identifier & token symbol.Dot & feature_name)

-- slot = ID, and where attributes are read also ID "." ID
abbrev pub slot : Bool → Grammar ExprTree
slot false = variable
slot true = alt attribute variable

-- NUMBER | STRING | "true" | "false" | ID "::" ID | slot
unfoldable pub leaf : Bool → Grammar ExprTree
leaf attributes =
    (alt (made tree.Int number)
    (alt (made tree.Text string)
    (alt (made tree.Bool truth)
    (alt literal (slot attributes)))))

-- ---- chains of operands

-- the symbol of an operator
abbrev pub sign : Symbol → Operator → Grammar Operator
sign s o = made (λ _. o) (token s)

-- an operator and the operand to its right
abbrev pub further : Grammar Operator → Grammar ExprTree → Grammar OperandTree
further signs a = made (λ x. record { operator = x.0; expr = x.1 }) (signs & a)

-- a whole chain is one node, and an operand alone is itself
abbrev pub chained : ExprTree → List OperandTree → ExprTree
chained first [] = first
chained first (o ∷ os) = tree.Chain first (o ∷ os)

abbrev pub paired : ExprTree → Option OperandTree → ExprTree
paired first None = first
paired first (Some o) = tree.Chain first (o ∷ [])

-- a { sign a }
abbrev pub chain : Grammar Operator → Grammar ExprTree → Grammar ExprTree
chain signs a = made (λ x. chained x.0 x.1) (a & star (further signs a))

-- a [ sign a ]
abbrev pub pair : Grammar Operator → Grammar ExprTree → Grammar ExprTree
pair signs a = made (λ x. paired x.0 x.1) (a & maybe (further signs a))

abbrev pub or_sign : Grammar Operator
or_sign = sign symbol.OrElse operator.Or

abbrev pub and_sign : Grammar Operator
and_sign = sign symbol.And operator.And

-- "==" | "!=" | "<" | "<=" | ">" | ">="
abbrev pub comparison_sign : Grammar Operator
comparison_sign =
    (alt (sign symbol.Equal operator.Equal)
    (alt (sign symbol.Differ operator.Differ)
    (alt (sign symbol.Less operator.Less)
    (alt (sign symbol.AtMost operator.AtMost)
    (alt (sign symbol.Greater operator.Greater)
    (sign symbol.AtLeast operator.AtLeast))))))

-- "+" | "-"
abbrev pub sum_sign : Grammar Operator
sum_sign = alt (sign symbol.Plus operator.Plus) (sign symbol.Minus operator.Minus)

-- "*" | "/" | "%"
abbrev pub product_sign : Grammar Operator
product_sign = alt (sign symbol.Times operator.Times) (alt (sign symbol.Divided operator.Divided) (sign symbol.Remainder operator.Remainder))

-- mul = un { ("*" | "/" | "%") un }
unfoldable pub product : Grammar ExprTree → Grammar ExprTree
product operand = chain product_sign operand

-- add = mul { ("+" | "-") mul }
unfoldable pub sum : Grammar ExprTree → Grammar ExprTree
sum operand = chain sum_sign (product operand)

-- cmp = add [ ("==" | "!=" | "<" | "<=" | ">" | ">=") add ]
unfoldable pub comparison : Grammar ExprTree → Grammar ExprTree
comparison operand = pair comparison_sign (sum operand)

-- and = cmp { "&&" cmp }
unfoldable pub conjunction : Grammar ExprTree → Grammar ExprTree
conjunction operand = chain and_sign (comparison operand)

-- expr = and { "||" and }
unfoldable pub disjunction : Grammar ExprTree → Grammar ExprTree
disjunction operand = chain or_sign (conjunction operand)

-- ---- what nests

-- "-" un
abbrev pub negative : Grammar ExprTree → Grammar ExprTree
negative a = made (λ x. tree.Negative x.1) (token symbol.Minus & a)

-- "!" un
abbrev pub negation : Grammar ExprTree → Grammar ExprTree
negation a = made (λ x. tree.Not x.1) (token symbol.Not & a)

-- "(" expr ")"
abbrev pub enclosed : Grammar ExprTree → Grammar ExprTree
enclosed a = made (λ x. x.1.0) (token symbol.LeftParen & a & token symbol.RightParen)

-- un = ("-" | "!") un | leaf | "(" expr ")", where so many unary operators and parentheses may nest
unfoldable pub operand : Grammar ExprTree → ℕ → Grammar ExprTree
operand leaf zero = leaf
operand leaf (suc n) =
    (alt leaf
    (alt (negative (operand leaf n))
    (alt (negation (operand leaf n))
    (enclosed (disjunction (operand leaf n))))))

-- expr, in which 64 may
unfoldable pub expression : Bool → Grammar ExprTree
expression attributes = disjunction (operand (leaf attributes) 64)
