-- The expression that lexemes spell.
use Rattle.std.specs.Prelude.{ℕ, List, [], Option, Some, None, Ok}
use Rattle.vt_grammar.specs.declared.symbol.Symbol.TheVariants as symbol
use Rattle.vt_grammar.specs.declared.lexeme.Lexeme.{Lexeme}
use Rattle.vt_grammar.specs.Grammar.{Grammar, nothing, token, alt, made}
use Rattle.vt_grammar.specs.Forms.{◌&◌}
use Rattle.vt_grammar.specs.Reading.{Read, read}
use Rattle.vt_tokens.specs.Words.{identifier, feature_name, number, string}
use Rattle.vt_text.specs.ExpressionRules.{truth, disjunction, operand}
use Rattle.vt_text.specs.declared.tree.ExprTree.{ExprTree}
use Rattle.vt_text.specs.declared.tree.ExprTree.TheVariants as tree

-- "::" ID, or nothing, behind an ID
abbrev pub name_rest : Grammar (List ℕ → ExprTree)
name_rest =
    (alt (made (λ x name. tree.Literal name x.1) (token symbol.DoubleColon & feature_name))
    (made (λ _ name. tree.Slot (record { name = name; attr = None })) nothing))

-- what stands alone in an expression, with the name that begins a literal and a variable taken once
unfoldable pub leaf : Grammar ExprTree
leaf =
    (alt (made tree.Int number)
    (alt (made tree.Text string)
    (alt (made tree.Bool truth)
    (made (λ x. x.1 x.0) (identifier & name_rest)))))

-- what is read to the end, and none where something is left or goes wrong
abbrev pub to_the_end : {A : Type 0} → Read A → Option A
to_the_end (Ok (x, [])) = Some x
to_the_end r = None

-- as it is read; by the law `expression_is_spelled` it is the one that the grammar has
unfoldable pub expression_of : List Lexeme → Option ExprTree
expression_of ls = to_the_end (read (disjunction (operand leaf 64)) ls)
