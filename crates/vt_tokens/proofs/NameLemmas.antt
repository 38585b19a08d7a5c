-- What the grammar gives where a word is due, and where a name has a rest.
use Rattle.std.proofs.Common.{ℕ, suc, ◌≡◌, ◌||◌, Bool, true, false, List, [], ◌∷◌, length, Ok, Err, refl, ◌∙◌, ap, if◌then◌else◌, arith}
use Rattle.vt_grammar.specs.declared.symbol.Symbol.{Symbol}
use Rattle.vt_grammar.specs.declared.symbol.Symbol.TheVariants as symbol
use Rattle.vt_grammar.specs.declared.lexeme.Lexeme.{Lexeme}
use Rattle.vt_grammar.specs.Grammar.{Grammar, token, seq, alt, made}
use Rattle.vt_grammar.specs.Reading.{Read, ◌>>=◌, first, read}
use Rattle.vt_grammar.specs.Forms.{applied}
use Rattle.vt_tokens.specs.Words.{any_word, feature_name}

-- ---- one lexeme of some symbols

-- the next lexeme, where its symbol is among those that can be first
abbrev pub ReadsOne : Grammar Lexeme → Type 0
ReadsOne g = (l : Lexeme) (ls : List Lexeme) → read g (l ∷ ls) ≡ (if first g l.symbol then Ok (l, ls) else Err (suc (length ls)))

abbrev pub FailsAtEnd : Grammar Lexeme → Type 0
FailsAtEnd g = read g [] ≡ Err 0

one_token : (s : Symbol) → ReadsOne (token s)
unfolding read
one_token s l ls = refl

-- of two answers the one where a symbol is the first's, and else what the second gives
chosen : {X : Type 0} (b c : Bool) (here there other : X) → other ≡ (if c then here else there) → (if b then (if b then here else there) else other) ≡ (if b || c then here else there)
chosen true c here there other e = refl
chosen false c here there other e = e

one_alt : (s : Symbol) (g : Grammar Lexeme) → ReadsOne g → ReadsOne (alt (token s) g)
unfolding read
one_alt s g h l ls = chosen (first (token s) l.symbol) (first g l.symbol) (Ok (l, ls)) (Err (suc (length ls))) (read g (l ∷ ls)) (h l ls)

end_token : (s : Symbol) → FailsAtEnd (token s)
unfolding read
end_token s = refl

end_alt : (s : Symbol) (g : Grammar Lexeme) → FailsAtEnd g → FailsAtEnd (alt (token s) g)
unfolding read
end_alt s g h = h

word_one : ReadsOne any_word
word_one = one_alt symbol.Identifier _ (one_alt symbol.Package _ (one_alt symbol.Import _ (one_alt symbol.Pattern _ (one_alt symbol.Private _ (one_alt symbol.Or _ (one_alt symbol.Find _ (one_alt symbol.Neg _ (one_alt symbol.Check _ (one_alt symbol.Eval _ (one_alt symbol.Sum _ (one_alt symbol.Min _ (one_alt symbol.Max _ (one_alt symbol.Avg _ (one_alt symbol.Count _ (one_alt symbol.Java _ (one_alt symbol.True _ (one_token symbol.False)))))))))))))))))

word_end : FailsAtEnd any_word
word_end = end_alt symbol.Identifier _ (end_alt symbol.Package _ (end_alt symbol.Import _ (end_alt symbol.Pattern _ (end_alt symbol.Private _ (end_alt symbol.Or _ (end_alt symbol.Find _ (end_alt symbol.Neg _ (end_alt symbol.Check _ (end_alt symbol.Eval _ (end_alt symbol.Sum _ (end_alt symbol.Min _ (end_alt symbol.Max _ (end_alt symbol.Avg _ (end_alt symbol.Count _ (end_alt symbol.Java _ (end_alt symbol.True _ (end_token symbol.False)))))))))))))))))

-- ---- the name of a feature

-- the text of the lexeme, behind which the rest stands
with_text : (r : Read Lexeme) (l : Lexeme) (ls : List Lexeme) → r ≡ Ok (l, ls) → (r >>= λ x. Ok (x.0.text, x.1)) ≡ Ok (l.text, ls)
with_text r l ls e = ap (λ (q : Read Lexeme). q >>= λ x. Ok (x.0.text, x.1)) e

without_text : (r : Read Lexeme) (n : ℕ) → r ≡ Err n → (r >>= λ x. Ok (x.0.text, x.1)) ≡ Err n
without_text r n e = ap (λ (q : Read Lexeme). q >>= λ x. Ok (x.0.text, x.1)) e

pub name_read : (l : Lexeme) (ls : List Lexeme) → first any_word l.symbol ≡ true → read feature_name (l ∷ ls) ≡ Ok (l.text, ls)
unfolding read
name_read l ls w = with_text (read any_word (l ∷ ls)) l ls (word_one l ls ∙ ap (λ b. if b then Ok (l, ls) else Err (suc (length ls))) w)

pub name_fails : (l : Lexeme) (ls : List Lexeme) → first any_word l.symbol ≡ false → read feature_name (l ∷ ls) ≡ Err (suc (length ls))
unfolding read
name_fails l ls w = without_text (read any_word (l ∷ ls)) (suc (length ls)) (word_one l ls ∙ ap (λ b. if b then Ok (l, ls) else Err (suc (length ls))) w)

name_ends : read feature_name [] ≡ Err 0
unfolding read
name_ends = without_text (read any_word []) 0 word_end

-- no lexeme is there
pub name_missing : (ls : List Lexeme) → length ls ≡ 0 → read feature_name ls ≡ Err (length ls)
name_missing [] e = name_ends
name_missing (l ∷ ls) e = absurd (omega (arith, e))

-- ---- a name, and a rest that is a function of it

after_name : {A B : Type 0} (x : A) (r : Read (A → B))
    → ((r >>= λ y. Ok ((x, y.0), y.1)) >>= λ (z : (A × (A → B)) × List Lexeme). Ok (z.0.1 z.0.0, z.1)) ≡ (r >>= λ y. Ok (y.0 x, y.1))
after_name x (Ok y) = refl
after_name x (Err n) = refl

module _ {A B : Type 0} (a : Grammar A) (b : Grammar (A → B)) where
  both : Read A → Read B
  both r = (r >>= λ x. read b x.1 >>= λ y. Ok ((x.0, y.0), y.1)) >>= λ (z : (A × (A → B)) × List Lexeme). Ok (z.0.1 z.0.0, z.1)

  pub named_rest : (ls rest : List Lexeme) (x : A) → read a ls ≡ Ok (x, rest) → read (made (λ z. z.1 z.0) (seq a b)) ls ≡ read (applied x b) rest
  unfolding read both
  named_rest ls rest x e = ap both e ∙ after_name x (read b rest)

  pub rest_fails : (ls : List Lexeme) (n : ℕ) → read a ls ≡ Err n → read (made (λ z. z.1 z.0) (seq a b)) ls ≡ Err n
  unfolding read both
  rest_fails ls n e = ap both e
