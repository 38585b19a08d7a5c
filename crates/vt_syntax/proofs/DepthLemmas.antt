-- In an expression the next lexeme decides, at each level of operators and at each depth.
use Rattle.std.proofs.Common.{ℕ, zero, suc, ◌≡◌, Bool, true, false, not, ◌&&◌, ◌||◌, List, [], ◌∷◌, refl, sym, ◌∙◌, ap}
use Rattle.std.specs.List.{list_all}
use Rattle.vt_facts.proofs.BoolLemmas.{or_left, or_right, and_left, and_right, and-false}
use Rattle.vt_grammar.specs.declared.symbol.Symbol.{Symbol}
use Rattle.vt_grammar.specs.declared.symbol.Symbol.TheVariants as symbol
use Rattle.vt_grammar.specs.Symbols.{same, all_symbols}
use Rattle.vt_grammar.specs.Grammar.{Grammar, token, seq, alt, star}
use Rattle.vt_grammar.specs.Forms.{maybe}
use Rattle.vt_grammar.specs.Reading.{also, first, more, is_empty, is_decided, apart}
use Rattle.vt_grammar.proofs.PartLemmas.{both, all_at}
use Rattle.vt_text.specs.declared.expr.Operator.{Operator}
use Rattle.vt_text.specs.declared.tree.ExprTree.{ExprTree}
use Rattle.vt_text.specs.ExpressionRules.{chain, pair, further, or_sign, and_sign, comparison_sign, sum_sign, product_sign, product, sum, comparison, conjunction, disjunction, negative, negation, enclosed, operand}
use Rattle.vt_syntax.specs.Expressions.{leaf}

-- ---- sets of symbols

-- the symbols of the one are among those of the other
abbrev Within : (Symbol → Bool) → (Symbol → Bool) → Type 0
Within f g = (s : Symbol) → f s ≡ true → g s ≡ true

less : (a b c d : Bool) → (a ≡ true → c ≡ true) → (b ≡ true → d ≡ true) → not (c && d) ≡ true → not (a && b) ≡ true
less false b c d f g e = refl
less true false c d f g e = refl
less true true c d f g e = let h : c ≡ true = f refl in let k : d ≡ true = g refl in cc (h, k, e)

apart_all : (f g f' g' : Symbol → Bool) → Within f f' → Within g g' → (xs : List Symbol) → list_all (λ s. not (f' s && g' s)) xs ≡ true → list_all (λ s. not (f s && g s)) xs ≡ true
apart_all f g f' g' v w [] e = refl
apart_all f g f' g' v w (x ∷ xs) e = both (not (f x && g x)) _ (less (f x) (g x) (f' x) (g' x) (v x) (w x) (and_left _ _ e)) (apart_all f g f' g' v w xs (and_right _ _ e))

-- what is apart from more symbols is apart from less
apart_within : (f g f' g' : Symbol → Bool) → Within f f' → Within g g' → apart f' g' ≡ true → apart f g ≡ true
apart_within f g f' g' v w d = apart_all f g f' g' v w all_symbols d

none_within : (f : Symbol → Bool) → ((s : Symbol) → f s ≡ false) → Within f (λ _. false)
none_within f n s h = let k : f s ≡ false = n s in cc (h, k)

itself : (g : Symbol → Bool) → Within g g
itself g s h = h

nothing_apart : (g : Symbol → Bool) (xs : List Symbol) → list_all (λ s. not (false && g s)) xs ≡ true
nothing_apart g [] = refl
nothing_apart g (x ∷ xs) = nothing_apart g xs

-- what has no symbol is apart from each set
apart_none : (f g : Symbol → Bool) → ((s : Symbol) → f s ≡ false) → apart f g ≡ true
apart_none f g n = apart_within f g (λ _. false) g (none_within f n) (itself g) (nothing_apart g all_symbols)

-- the same the other way round
none_apart : (f g : Symbol → Bool) → ((s : Symbol) → g s ≡ false) → apart f g ≡ true
none_apart f g n = go all_symbols
  where
    off : (a b : Bool) → b ≡ false → not (a && b) ≡ true
    off true b e = ap not e
    off false b e = refl

    go : (xs : List Symbol) → list_all (λ s. not (f s && g s)) xs ≡ true
    go [] = refl
    go (x ∷ xs) = both _ _ (off (f x) (g x) (n x)) (go xs)

any_of : (x y z p q : Bool) → (x ≡ true → p ≡ true) → (y ≡ true → q ≡ true) → (z ≡ true → p ≡ true) → ((x || y) || z) ≡ true → (p || q) ≡ true
any_of true y z p q f g h e = or_left p q (f refl)
any_of false true z p q f g h e = or_right p q (g refl)
any_of false false true p q f g h e = or_left p q (h refl)
any_of false false false p q f g h e = cc (e)

-- ---- chains

-- the signs of a level: the next lexeme decides, and nothing goes on behind one
record IsSign (signs : Grammar Operator) : Type 0 where
  decided : is_decided signs ≡ true
  some : is_empty signs ≡ false
  ends : (s : Symbol) → more signs s ≡ false

-- an operand: the next lexeme decides, it has a lexeme, and these alone go on where it could end
record IsOperand (ends : Symbol → Bool) (a : Grammar ExprTree) : Type 0 where
  decided : is_decided a ≡ true
  some : is_empty a ≡ false
  goes_on : Within (more a) ends

module _ (signs : Grammar Operator) (a : Grammar ExprTree) (ends : Symbol → Bool) (sg : IsSign signs) (k : IsOperand ends a) (d : apart ends (first signs) ≡ true) where
  further_decided : is_decided (further signs a) ≡ true
  further_decided = both _ _ (both _ _ sg.decided k.decided) (apart_none (more signs) (first a) sg.ends)

  further_first : (s : Symbol) → first (further signs a) s ≡ first signs s
  further_first s = ap (λ e. also e (first signs s) (first a s)) sg.some

  further_some : is_empty (further signs a) ≡ false
  further_some = ap (λ e. e && is_empty a) sg.some

  further_goes_on : Within (more (further signs a)) ends
  further_goes_on s h = go (more a s) (is_empty a) (more signs s) (k.goes_on s) (sg.ends s) h
    where
      go : (x y z : Bool) → (x ≡ true → ends s ≡ true) → z ≡ false → (x || (y && z)) ≡ true → ends s ≡ true
      go true y z f n e = f refl
      go false true z f n e = cc (n, e)
      go false false z f n e = cc (e)

  further_apart : (f : Symbol → Bool) → Within f ends → apart f (first (further signs a)) ≡ true
  further_apart f w = apart_within f (first (further signs a)) ends (first signs) w (λ s h. sym (further_first s) ∙ h) d

  further_star : is_decided (star (further signs a)) ≡ true
  further_star = both _ _ further_decided (both _ _ (ap not further_some) (further_apart (more (further signs a)) further_goes_on))

  begins : Within (first (further signs a)) (first signs)
  begins s h = sym (further_first s) ∙ h

  chain_known : IsOperand (λ s. ends s || first signs s) (chain signs a)
  chain_known = record {
    decided = both _ _ (both _ _ k.decided further_star) (further_apart (more a) k.goes_on);
    some = ap (λ e. e && true) k.some;
    goes_on = λ s h. any_of (more (further signs a) s) (first (further signs a) s) (more a s) (ends s) (first signs s) (further_goes_on s) (begins s) (k.goes_on s) h;
  }

  maybe_decided : is_decided (maybe (further signs a)) ≡ true
  maybe_decided = both _ _ (both _ true further_decided refl) (both _ _ (ap not further_some) (none_apart (first (further signs a)) (λ _. false) (λ s. refl)))

  maybe_begins : Within (first (maybe (further signs a))) (first signs)
  maybe_begins s h = go (first (further signs a) s) (begins s) h
    where
      go : (x : Bool) → (x ≡ true → first signs s ≡ true) → (x || false) ≡ true → first signs s ≡ true
      go true f e = f refl
      go false f e = cc (e)

  pair_goes_on : Within (more (pair signs a)) (λ s. ends s || first signs s)
  pair_goes_on s h = go (more (further signs a) s) (first (further signs a) s) (is_empty (further signs a)) (more a s) (further_goes_on s) (begins s) (k.goes_on s) h
    where
      go : (m f e n : Bool) → (m ≡ true → ends s ≡ true) → (f ≡ true → first signs s ≡ true) → (n ≡ true → ends s ≡ true) → (((m || false) || (true && f)) || ((e || true) && n)) ≡ true → (ends s || first signs s) ≡ true
      go true f e n g h j q = or_left (ends s) (first signs s) (g refl)
      go false true e n g h j q = or_right (ends s) (first signs s) (h refl)
      go false false e true g h j q = or_left (ends s) (first signs s) (j refl)
      go false false true false g h j q = cc (q)
      go false false false false g h j q = cc (q)

  pair_known : IsOperand (λ s. ends s || first signs s) (pair signs a)
  pair_known = record {
    decided = both _ _ (both _ _ k.decided maybe_decided) (apart_within (more a) (first (maybe (further signs a))) ends (first signs) k.goes_on maybe_begins d);
    some = ap (λ e. e && (is_empty (further signs a) || true)) k.some;
    goes_on = pair_goes_on;
  }

-- ---- the levels

-- what goes on behind a name
abbrev leaf_ends : Symbol → Bool
leaf_ends s = same symbol.DoubleColon s

abbrev product_ends : Symbol → Bool
product_ends s = leaf_ends s || first product_sign s

abbrev sum_ends : Symbol → Bool
sum_ends s = product_ends s || first sum_sign s

abbrev comparison_ends : Symbol → Bool
comparison_ends s = sum_ends s || first comparison_sign s

abbrev conjunction_ends : Symbol → Bool
conjunction_ends s = comparison_ends s || first and_sign s

abbrev disjunction_ends : Symbol → Bool
disjunction_ends s = conjunction_ends s || first or_sign s

or_known : IsSign or_sign
or_known = record { decided = refl; some = refl; ends = λ s. refl }

and_known : IsSign and_sign
and_known = record { decided = refl; some = refl; ends = λ s. refl }

comparison_sign_known : IsSign comparison_sign
comparison_sign_known = record { decided = refl; some = refl; ends = λ s. refl }

sum_sign_known : IsSign sum_sign
sum_sign_known = record { decided = refl; some = refl; ends = λ s. refl }

product_sign_known : IsSign product_sign
product_sign_known = record { decided = refl; some = refl; ends = λ s. refl }

module _ (a : Grammar ExprTree) (k : IsOperand leaf_ends a) where
  product_known : IsOperand product_ends (product a)
  unfolding product
  product_known = chain_known product_sign a leaf_ends product_sign_known k refl

  sum_known : IsOperand sum_ends (sum a)
  unfolding sum
  sum_known = chain_known sum_sign (product a) product_ends sum_sign_known product_known refl

  comparison_known : IsOperand comparison_ends (comparison a)
  unfolding comparison
  comparison_known = pair_known comparison_sign (sum a) sum_ends comparison_sign_known sum_known refl

  conjunction_known : IsOperand conjunction_ends (conjunction a)
  unfolding conjunction
  conjunction_known = chain_known and_sign (comparison a) comparison_ends and_known comparison_known refl

  disjunction_known : IsOperand disjunction_ends (disjunction a)
  unfolding disjunction
  disjunction_known = chain_known or_sign (conjunction a) conjunction_ends or_known conjunction_known refl

-- ---- the depths

implied : (a b : Bool) → (not a || b) ≡ true → a ≡ true → b ≡ true
implied true b e h = e
implied false b e h = cc (h)

leaf_known : IsOperand leaf_ends leaf
unfolding leaf
leaf_known = record { decided = refl; some = refl; goes_on = λ s h. implied _ _ (all_at (λ s. not (more leaf s) || leaf_ends s) refl s) h }

-- a leaf begins with no unary operator and no parenthesis
leaf_begins : apart (first leaf) (λ s. same symbol.Minus s || (same symbol.Not s || same symbol.LeftParen s)) ≡ true
unfolding leaf
leaf_begins = refl

-- what goes on behind a choice, and behind a sequence, whose second has a lexeme
more_alt : {A : Type 0} (a b : Grammar A) (f : Symbol → Bool) → is_empty b ≡ false → Within (more a) f → Within (more b) f → Within (more (alt a b)) f
more_alt a b f n v w s h = go (more a s) (more b s) (is_empty b) (first a s) n (v s) (w s) h
  where
    go : (x y e z : Bool) → e ≡ false → (x ≡ true → f s ≡ true) → (y ≡ true → f s ≡ true) → ((x || y) || (e && z)) ≡ true → f s ≡ true
    go true y e z n v w q = v refl
    go false true e z n v w q = w refl
    go false false true z n v w q = cc (n)
    go false false false z n v w q = cc (q)

more_seq : {A B : Type 0} (a : Grammar A) (b : Grammar B) (f : Symbol → Bool) → is_empty b ≡ false → Within (more b) f → Within (more (seq a b)) f
more_seq a b f n w s h = go (more b s) (is_empty b) (more a s) n (w s) h
  where
    go : (x e z : Bool) → e ≡ false → (x ≡ true → f s ≡ true) → (x || (e && z)) ≡ true → f s ≡ true
    go true e z n w q = w refl
    go false true z n w q = cc (n)
    go false false z n w q = cc (q)

module _ (l u : Grammar ExprTree) (leaf_is : IsOperand leaf_ends l) (begins_otherwise : apart (first l) (λ s. same symbol.Minus s || (same symbol.Not s || same symbol.LeftParen s)) ≡ true) (k : IsOperand leaf_ends u) where
  behind : (s : Symbol) → is_decided (seq (token s) u) ≡ true
  behind s = both _ _ k.decided (apart_none (λ _. false) (first u) (λ _. refl))

  enclosed_decided : is_decided (enclosed (disjunction u)) ≡ true
  enclosed_decided =
      let e = disjunction_known u k in
      both _ _ (both _ _ (both _ true e.decided refl) (apart_within (more (disjunction u)) (same symbol.RightParen) disjunction_ends (same symbol.RightParen) e.goes_on (itself (same symbol.RightParen)) refl))
      (apart_none (λ _. false) (first (seq (disjunction u) (token symbol.RightParen))) (λ _. refl))

  enclosed_goes_on : Within (more (enclosed (disjunction u))) leaf_ends
  enclosed_goes_on = more_seq (token symbol.LeftParen) (seq (disjunction u) (token symbol.RightParen)) leaf_ends (and-false (is_empty (disjunction u)))
      (more_seq (disjunction u) (token symbol.RightParen) leaf_ends refl (λ s h. cc (h)))

  next_goes_on : Within (more (alt l (alt (negative u) (alt (negation u) (enclosed (disjunction u)))))) leaf_ends
  next_goes_on = more_alt l (alt (negative u) (alt (negation u) (enclosed (disjunction u)))) leaf_ends refl leaf_is.goes_on
      (more_alt (negative u) (alt (negation u) (enclosed (disjunction u))) leaf_ends refl (more_seq (token symbol.Minus) u leaf_ends k.some k.goes_on)
      (more_alt (negation u) (enclosed (disjunction u)) leaf_ends refl (more_seq (token symbol.Not) u leaf_ends k.some k.goes_on) enclosed_goes_on))

  next_known : IsOperand leaf_ends (alt l (alt (negative u) (alt (negation u) (enclosed (disjunction u)))))
  next_known = record {
    decided = both _ _ (both _ _ leaf_is.decided (both _ _ (both _ _ (behind symbol.Minus) (both _ _ (both _ _ (behind symbol.Not) enclosed_decided) refl)) refl)) (both _ _ (ap not leaf_is.some) begins_otherwise);
    some = ap (λ e. e || false) leaf_is.some;
    goes_on = next_goes_on;
  }

-- an operand at each depth
operand_known : (n : ℕ) → IsOperand leaf_ends (operand leaf n)
unfolding operand
operand_known zero = leaf_known
operand_known (suc n) = next_known leaf (operand leaf n) leaf_known leaf_begins (operand_known n)

-- the whole of an expression
pub decided_at : (n : ℕ) → is_decided (disjunction (operand leaf n)) ≡ true
decided_at n = (disjunction_known (operand leaf n) (operand_known n)).decided
