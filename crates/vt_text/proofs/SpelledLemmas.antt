-- What is read of all the lexemes is what they spell.
use Rattle.std.proofs.Common.{ℕ, zero, suc, ◌≡◌, ◌⊎◌, inl, inr, Bool, true, false, List, [], ◌∷◌, ◌++◌, length, nat_eq, Ok, Err, Some, None, refl, sym, ◌∙◌, ap, subst}
use Rattle.vt_grammar.specs.declared.symbol.Symbol.TheVariants as symbol
use Rattle.vt_grammar.specs.declared.lexeme.Lexeme.{Lexeme}
use Rattle.vt_grammar.specs.Grammar.{Grammar, nothing, token, seq, alt, star, made, Join, Spells, IsPart}
use Rattle.vt_grammar.specs.Forms.{◌&◌}
use Rattle.vt_grammar.specs.SameAs.{SameAs}
use Rattle.vt_grammar.specs.Reading.{Read, is_decided, read}
use Rattle.vt_grammar.specs.Inside.SameLaws.{same_itself, same_seq, same_made, same_alt, same_star, same_maybe, same_front_of_two}
use Rattle.vt_grammar.proofs.PartLemmas.{append_nil, spells_part}
use Rattle.vt_grammar.proofs.WholeLemmas.{one_value, ended_spelled, left_only, spelled_whole}
use Rattle.vt_grammar.proofs.ExactLemmas.{not_ok}
use Rattle.vt_text.specs.declared.expr.Operator.{Operator}
use Rattle.vt_text.specs.declared.tree.ExprTree.{ExprTree}
use Rattle.vt_text.specs.declared.tree.ExprTree.TheVariants as tree
use Rattle.vt_tokens.specs.Words.{identifier, feature_name, number, string}
use Rattle.vt_text.specs.ExpressionRules.{truth, literal, slot, leaf as written, chain, pair, further, or_sign, and_sign, comparison_sign, sum_sign, product_sign, product, sum, comparison, conjunction, disjunction, negative, negation, enclosed, operand, expression}
use Rattle.vt_text.specs.Inside.FactoredLeaf as one
use Rattle.vt_text.specs.Inside.FactoredLeaf.{leaf, read_as}
use Rattle.vt_text.specs.Parsing.{IsNoExpression}
use Rattle.vt_text.proofs.DepthLemmas.{decided_at}

-- ---- a front alone beside a front with something behind it

-- the same as what is the same
same_then : {A : Type 0} (g h k : Grammar A) → SameAs g h → SameAs h k → SameAs g k
same_then g h k s t = record {
  to = λ ls x p. t.to ls x (s.to ls x p);
  from = λ ls x p. s.from ls x (t.from ls x p);
  part_to = λ ls p. t.part_to ls (s.part_to ls p);
  part_from = λ ls p. s.part_from ls (t.part_from ls p);
}

-- a function made of itself
same_id : {A B : Type 0} (r : Grammar (A → B)) → SameAs (made (λ m y. m y) r) r
same_id r = record {
  to = λ ls x p. subst (Spells r ls) p.2 p.1;
  from = λ ls x p. (x, p, refl);
  part_to = λ ls p. p;
  part_from = λ ls p. p;
}

module _ {A B D : Type 0} (a : Grammar A) (b : Grammar B) (f : B → A → D) (h : A → D) where
  -- the front with nothing behind it
  abbrev alone : Grammar (A → D)
  alone = made (λ _ y. h y) nothing

  abbrev apart_two : Grammar D
  apart_two = alt (made (λ x. f x.1 x.0) (seq a b)) (made h a)

  abbrev behind_one : Grammar D
  behind_one = made (λ x. x.1 x.0) (seq a (alt (made f b) alone))

  front_is : (ls front back : List Lexeme) → ls ≡ front ++ back → back ≡ [] → front ≡ ls
  front_is ls front back w e = append_nil front ∙ sym (w ∙ ap (λ (l : List Lexeme). front ++ l) e)

  to : (ls : List Lexeme) (x : D) → Spells apart_two ls x → Spells behind_one ls x
  to ls x (inl k) = ((k.0.0, f k.0.1), record { front = k.1.front; back = k.1.back; whole = k.1.whole; first = k.1.first; second = inl (k.0.1, k.1.second, refl) }, k.2)
  to ls x (inr k) = ((k.0, λ y. h y), record { front = ls; back = []; whole = append_nil ls; first = k.1; second = inr (tt, refl, refl) }, k.2)

  from : (ls : List Lexeme) (x : D) → Spells behind_one ls x → Spells apart_two ls x
  from ls x k = go k.1.second
    where
      go : Spells (alt (made f b) alone) k.1.back k.0.1 → Spells apart_two ls x
      go (inl n) = inl ((k.0.0, n.0), record { front = k.1.front; back = k.1.back; whole = k.1.whole; first = k.1.first; second = n.1 }, ap (λ (m : A → D). m k.0.0) n.2 ∙ k.2)
      go (inr n) = inr (k.0.0, subst (λ l. Spells a l k.0.0) (front_is ls k.1.front k.1.back k.1.whole n.1) k.1.first, ap (λ (m : A → D). m k.0.0) n.2 ∙ k.2)

  part_to : (ls : List Lexeme) → IsPart apart_two ls → IsPart behind_one ls
  part_to ls (inl (inl k)) = inl k
  part_to ls (inl (inr k)) = inr (k.0, record { front = k.1.front; back = k.1.back; whole = k.1.whole; first = k.1.first; second = inl k.1.second })
  part_to ls (inr k) = inl k

  part_from : (ls : List Lexeme) → IsPart behind_one ls → IsPart apart_two ls
  part_from ls (inl k) = inr k
  part_from ls (inr k) = go k.1.second
    where
      go : IsPart (alt (made f b) alone) k.1.back → IsPart apart_two ls
      go (inl n) = inl (inr (k.0, record { front = k.1.front; back = k.1.back; whole = k.1.whole; first = k.1.first; second = n }))
      go (inr n) = inr (subst (IsPart a) (front_is ls k.1.front k.1.back k.1.whole n) (spells_part a k.1.front k.0 k.1.first))

  same_two : SameAs apart_two behind_one
  same_two = record { to = to; from = from; part_to = part_to; part_from = part_from }

-- two fronts with something behind them, and one alone
same_three : {A B C D : Type 0} (a : Grammar A) (b : Grammar B) (c : Grammar C) (f : B → A → D) (g : C → A → D) (h : A → D)
    → SameAs (alt (made (λ x. f x.1 x.0) (seq a b)) (alt (made (λ x. g x.1 x.0) (seq a c)) (made h a)))
    (made (λ x. x.1 x.0) (seq a (alt (made f b) (alt (made g c) (alone a c g h)))))
same_three a b c f g h =
    same_then _ _ _ (same_alt _ _ _ _ (same_itself (made (λ x. f x.1 x.0) (seq a b))) (same_two a c g h))
    (same_then _ _ _ (same_front_of_two a b (alt (made g c) (alone a c g h)) f (λ m y. m y))
    (same_made _ _ _ (same_seq _ _ _ _ (same_itself a) (same_alt _ _ _ _ (same_itself (made f b)) (same_id (alt (made g c) (alone a c g h)))))))

-- ---- what stands alone

same_named : (attributes : Bool) → SameAs (alt literal (slot attributes)) (one.named attributes)
same_named false = same_two identifier (token symbol.DoubleColon & feature_name) (λ x name. tree.Literal name x.1) (λ name. tree.Slot (record { name = name; attr = None }))
same_named true = same_three identifier (token symbol.DoubleColon & feature_name) (token symbol.Dot & feature_name)
    (λ x name. tree.Literal name x.1)
    (λ x name. tree.Slot (record { name = name; attr = Some x.1 }))
    (λ name. tree.Slot (record { name = name; attr = None }))

same_leaf : (attributes : Bool) → SameAs (written attributes) (leaf attributes)
unfolding written leaf
same_leaf attributes =
    same_alt _ _ _ _ (same_itself (made tree.Int number))
    (same_alt _ _ _ _ (same_itself (made tree.Text string))
    (same_alt _ _ _ _ (same_itself (made tree.Bool truth)) (same_named attributes)))

-- ---- levels and depths

module _ (a b : Grammar ExprTree) (s : SameAs a b) where
  same_further : (signs : Grammar Operator) → SameAs (further signs a) (further signs b)
  same_further signs = same_made _ _ _ (same_seq _ _ _ _ (same_itself signs) s)

  same_chain : (signs : Grammar Operator) → SameAs (chain signs a) (chain signs b)
  same_chain signs = same_made _ _ _ (same_seq _ _ _ _ s (same_star _ _ (same_further signs)))

  same_pair : (signs : Grammar Operator) → SameAs (pair signs a) (pair signs b)
  same_pair signs = same_made _ _ _ (same_seq _ _ _ _ s (same_maybe _ _ (same_further signs)))

module _ (a b : Grammar ExprTree) (s : SameAs a b) where
  same_sum : SameAs (sum a) (sum b)
  unfolding sum product
  same_sum = same_chain (product a) (product b) (same_chain a b s product_sign) sum_sign

  same_disjunction : SameAs (disjunction a) (disjunction b)
  unfolding disjunction conjunction comparison
  same_disjunction = same_chain (conjunction a) (conjunction b) (same_chain (comparison a) (comparison b) (same_pair (sum a) (sum b) same_sum comparison_sign) and_sign) or_sign

  same_negative : SameAs (negative a) (negative b)
  same_negative = same_made _ _ _ (same_seq _ _ _ _ (same_itself (token symbol.Minus)) s)

  same_negation : SameAs (negation a) (negation b)
  same_negation = same_made _ _ _ (same_seq _ _ _ _ (same_itself (token symbol.Not)) s)

  same_enclosed : SameAs (enclosed a) (enclosed b)
  same_enclosed = same_made _ _ _ (same_seq _ _ _ _ (same_itself (token symbol.LeftParen)) (same_seq _ _ _ _ s (same_itself (token symbol.RightParen))))

same_operand : (l m : Grammar ExprTree) → SameAs l m → (n : ℕ) → SameAs (operand l n) (operand m n)
unfolding operand
same_operand l m s zero = s
same_operand l m s (suc n) =
    let t = same_operand l m s n in
    same_alt _ _ _ _ s
    (same_alt _ _ _ _ (same_negative (operand l n) (operand m n) t)
    (same_alt _ _ _ _ (same_negation (operand l n) (operand m n) t)
    (same_enclosed (disjunction (operand l n)) (disjunction (operand m n)) (same_disjunction (operand l n) (operand m n) t))))

same_expression : (attributes : Bool) → SameAs (expression attributes) (read_as attributes)
unfolding expression read_as
same_expression attributes = same_disjunction (operand (written attributes) 64) (operand (leaf attributes) 64) (same_operand (written attributes) (leaf attributes) (same_leaf attributes) 64)

read_decided : (attributes : Bool) → is_decided (read_as attributes) ≡ true
unfolding read_as
read_decided attributes = decided_at attributes 64

-- ---- the whole of the lexemes

module _ (attributes : Bool) where
  -- lexemes spell at most one expression
  pub one_expression : (ls : List Lexeme) (x y : ExprTree) → Spells (expression attributes) ls x → Spells (expression attributes) ls y → x ≡ y
  one_expression = one_value (expression attributes) (read_as attributes) (read_decided attributes) (same_expression attributes)

  -- nothing is left
  pub all_read : (ls : List Lexeme) (x : ExprTree) (rest : List Lexeme) → read (read_as attributes) ls ≡ Ok (x, rest) → nat_eq (length rest) 0 ≡ true → Spells (expression attributes) ls x
  all_read = ended_spelled (expression attributes) (read_as attributes) (read_decided attributes) (same_expression attributes)

  -- something is left
  pub some_left : (ls : List Lexeme) (x : ExprTree) (rest : List Lexeme) → read (read_as attributes) ls ≡ Ok (x, rest) → nat_eq (length rest) 0 ≡ false → IsNoExpression attributes ls
  some_left ls x rest e n y h = left_only (expression attributes) (read_as attributes) (read_decided attributes) (same_expression attributes) ls x rest y e n h

  -- the reading stops
  pub none_read : (ls : List Lexeme) (n : ℕ) → read (read_as attributes) ls ≡ Err n → IsNoExpression attributes ls
  none_read ls n e y h = not_ok n (y, []) (sym e ∙ spelled_whole (expression attributes) (read_as attributes) (read_decided attributes) (same_expression attributes) ls y h)
