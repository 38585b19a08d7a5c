-- The expression that lexemes spell is the one that is read of all of them.
use Rattle.std.proofs.Common.{ℕ, zero, suc, ◌≡◌, inr, List, [], ◌∷◌, true, false, Option, Some, None, MatchOption, Ok, Err, refl, sym, ap, subst}
use Rattle.std.proofs.lemmas.Option.{same_Some}
use Rattle.vt_grammar.specs.declared.symbol.Symbol.TheVariants as symbol
use Rattle.vt_grammar.specs.declared.lexeme.Lexeme.{Lexeme}
use Rattle.vt_grammar.specs.Grammar.{Grammar, token, alt, made, Spells}
use Rattle.vt_grammar.specs.Forms.{◌&◌}
use Rattle.vt_grammar.specs.SameAs.{SameAs}
use Rattle.vt_grammar.specs.Reading.{Read, is_decided, read}
use Rattle.vt_grammar.specs.Inside.SameLaws.{same_itself, same_seq, same_made, same_alt, same_star, same_maybe}
use Rattle.vt_grammar.proofs.WholeLemmas.{whole_spelled, spelled_whole}
use Rattle.vt_text.specs.declared.expr.Operator.{Operator}
use Rattle.vt_text.specs.declared.tree.ExprTree.{ExprTree}
use Rattle.vt_text.specs.declared.tree.ExprTree.TheVariants as tree
use Rattle.vt_tokens.specs.Words.{identifier, feature_name, number, string}
use Rattle.vt_text.specs.ExpressionRules.{truth, literal, variable, leaf as written, chain, pair, further, and_sign, or_sign, comparison_sign, sum_sign, product_sign, product, sum, comparison, conjunction, disjunction, negative, negation, enclosed, operand, expression}
use Rattle.vt_text.specs.Parsing.{IsNoExpression}
use Rattle.vt_syntax.specs.Expressions.{name_rest, leaf, to_the_end, expression_of}
use Rattle.vt_syntax.specs.Inside.SameChoices.{taken_by, ended, same_through, same_join, same_turned, same_ended}
use Rattle.vt_syntax.proofs.DepthLemmas.{decided_at}

-- ---- what stands alone

-- a literal or a variable begins with a name
same_name : SameAs (alt literal variable) (made (λ x. x.1 x.0) (identifier & name_rest))
same_name = same_through _
    (alt (taken_by identifier (made (λ x name. tree.Literal name x.1) (token symbol.DoubleColon & feature_name)))
    (taken_by identifier (ended (λ name. tree.Slot (record { name = name; attr = None })))))
    _
    (same_alt _ _ _ _
    (same_turned (λ x name. tree.Literal name x.1) identifier (token symbol.DoubleColon & feature_name))
    (same_ended (λ name. tree.Slot (record { name = name; attr = None })) identifier (λ ls y h. inr (h.0, h.1.0, h.1.1))))
    (same_join identifier (made (λ x name. tree.Literal name x.1) (token symbol.DoubleColon & feature_name)) (ended (λ name. tree.Slot (record { name = name; attr = None }))))

same_leaf : SameAs (written false) leaf
unfolding written leaf
same_leaf =
    same_alt _ _ _ _ (same_itself (made tree.Int number))
    (same_alt _ _ _ _ (same_itself (made tree.Text string))
    (same_alt _ _ _ _ (same_itself (made tree.Bool truth)) same_name))

-- ---- levels and depths

module _ (a b : Grammar ExprTree) (s : SameAs a b) where
  same_further : (signs : Grammar Operator) → SameAs (further signs a) (further signs b)
  same_further signs = same_made _ _ _ (same_seq _ _ _ _ (same_itself signs) s)

  same_chain : (signs : Grammar Operator) → SameAs (chain signs a) (chain signs b)
  same_chain signs = same_made _ _ _ (same_seq _ _ _ _ s (same_star _ _ (same_further signs)))

  same_pair : (signs : Grammar Operator) → SameAs (pair signs a) (pair signs b)
  same_pair signs = same_made _ _ _ (same_seq _ _ _ _ s (same_maybe _ _ (same_further signs)))

module _ (a b : Grammar ExprTree) (s : SameAs a b) where
  same_sum : SameAs (sum a) (sum b)
  unfolding sum product
  same_sum = same_chain (product a) (product b) (same_chain a b s product_sign) sum_sign

  same_disjunction : SameAs (disjunction a) (disjunction b)
  unfolding disjunction conjunction comparison
  same_disjunction = same_chain (conjunction a) (conjunction b) (same_chain (comparison a) (comparison b) (same_pair (sum a) (sum b) same_sum comparison_sign) and_sign) or_sign

  same_negative : SameAs (negative a) (negative b)
  same_negative = same_made _ _ _ (same_seq _ _ _ _ (same_itself (token symbol.Minus)) s)

  same_negation : SameAs (negation a) (negation b)
  same_negation = same_made _ _ _ (same_seq _ _ _ _ (same_itself (token symbol.Not)) s)

  same_enclosed : SameAs (enclosed a) (enclosed b)
  same_enclosed = same_made _ _ _ (same_seq _ _ _ _ (same_itself (token symbol.LeftParen)) (same_seq _ _ _ _ s (same_itself (token symbol.RightParen))))

same_operand : (l m : Grammar ExprTree) → SameAs l m → (n : ℕ) → SameAs (operand l n) (operand m n)
unfolding operand
same_operand l m s zero = s
same_operand l m s (suc n) =
    let t = same_operand l m s n in
    same_alt _ _ _ _ s
    (same_alt _ _ _ _ (same_negative (operand l n) (operand m n) t)
    (same_alt _ _ _ _ (same_negation (operand l n) (operand m n) t)
    (same_enclosed (disjunction (operand l n)) (disjunction (operand m n)) (same_disjunction (operand l n) (operand m n) t))))

-- ---- the whole of the lexemes

-- an expression as it is read
abbrev as_read : Grammar ExprTree
as_read = disjunction (operand leaf 64)

same_expression : SameAs (expression false) as_read
unfolding expression
same_expression = same_disjunction (operand (written false) 64) (operand leaf 64) (same_operand (written false) leaf same_leaf 64)

read_decided : is_decided as_read ≡ true
read_decided = decided_at 64

from_read : (ls : List Lexeme) (r : Read ExprTree) → read as_read ls ≡ r → (e : ExprTree) → to_the_end r ≡ Some e → Spells (expression false) ls e
from_read ls (Ok (x, [])) is e h = subst (Spells (expression false) ls) (same_Some x e h) (whole_spelled (expression false) as_read read_decided same_expression ls x is)
from_read ls (Ok (x, l ∷ rest)) is e h = absurd (let c : ⊥ = cc (h) in c)
from_read ls (Err n) is e h = absurd (let c : ⊥ = cc (h) in c)

pub is_spelled : (ls : List Lexeme) (e : ExprTree) → expression_of ls ≡ Some e → Spells (expression false) ls e
unfolding expression_of
is_spelled ls e h = from_read ls (read as_read ls) refl e h

pub spelled_is : (ls : List Lexeme) (e : ExprTree) → Spells (expression false) ls e → expression_of ls ≡ Some e
unfolding expression_of
spelled_is ls e h = ap to_the_end (spelled_whole (expression false) as_read read_decided same_expression ls e h)

none_is : (ls : List Lexeme) (o : Option ExprTree) → expression_of ls ≡ o → IsNoExpression false ls → None ≡ o
none_is ls None is none = refl
none_is ls (Some e) is none = absurd (none e (is_spelled ls e is))

-- what lexemes are known to spell, or to be no expression
pub tree_is : (ls : List Lexeme) (o : Option ExprTree) → MatchOption o (IsNoExpression false ls) (λ e. Spells (expression false) ls e) → o ≡ expression_of ls
tree_is ls None h = none_is ls (expression_of ls) refl h
tree_is ls (Some e) h = sym (spelled_is ls e h)
