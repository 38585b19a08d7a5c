-- What stands alone in an expression, with the name that is common to three forms taken once.
use Rattle.std.specs.Prelude.{ℕ, List, Bool, true, false, Some, None}
use Rattle.vt_grammar.specs.declared.symbol.Symbol.TheVariants as symbol
use Rattle.vt_grammar.specs.Grammar.{Grammar, nothing, token, alt, made}
use Rattle.vt_grammar.specs.Forms.{◌&◌}
use Rattle.vt_tokens.specs.Words.{identifier, feature_name, number, string}
use Rattle.vt_text.specs.ExpressionRules.{truth, disjunction, operand}
use Rattle.vt_text.specs.declared.tree.ExprTree.{ExprTree}
use Rattle.vt_text.specs.declared.tree.ExprTree.TheVariants as tree

-- "::" ID behind an ID
abbrev pub literal_rest : Grammar (List ℕ → ExprTree)
literal_rest = made (λ x name. tree.Literal name x.1) (token symbol.DoubleColon & feature_name)

-- "." ID behind an ID
abbrev pub attribute_rest : Grammar (List ℕ → ExprTree)
attribute_rest = made (λ x name. tree.Slot (record { name = name; attr = Some x.1 })) (token symbol.Dot & feature_name)

-- nothing behind it
abbrev pub no_rest : Grammar (List ℕ → ExprTree)
no_rest = made (λ _ name. tree.Slot (record { name = name; attr = None })) nothing

abbrev pub name_rest : Bool → Grammar (List ℕ → ExprTree)
name_rest false = alt literal_rest no_rest
name_rest true = alt literal_rest (alt attribute_rest no_rest)

-- ID "::" ID | slot
abbrev pub named : Bool → Grammar ExprTree
named attributes = made (λ x. x.1 x.0) (identifier & name_rest attributes)

unfoldable pub leaf : Bool → Grammar ExprTree
leaf attributes = alt (made tree.Int number) (alt (made tree.Text string) (alt (made tree.Bool truth) (named attributes)))

-- an expression as it is read
unfoldable pub read_as : Bool → Grammar ExprTree
read_as attributes = disjunction (operand (leaf attributes) 64)
