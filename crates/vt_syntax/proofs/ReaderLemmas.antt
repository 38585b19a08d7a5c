-- What the grammar gives where a front is followed by what is a function of it, and at a repetition.
use Rattle.std.proofs.Common.{ℕ, ◌≡◌, List, [], Ok, Err, refl, ◌∙◌, ap}
use Rattle.vt_grammar.specs.declared.lexeme.Lexeme.{Lexeme}
use Rattle.vt_grammar.specs.Grammar.{Grammar, seq, star, made}
use Rattle.vt_grammar.specs.Reading.{Read, ◌>>=◌, read}
use Rattle.vt_grammar.specs.Gives.{ahead}
use Rattle.vt_grammar.specs.Forms.{applied}
use Rattle.vt_grammar.proofs.ExactLemmas.{ok_same, not_ok}
use Rattle.vt_grammar.proofs.RollLemmas.{ahead_nil}
use Rattle.vt_tokens.specs.Words.{identifier}
use Rattle.vt_syntax.specs.Rules.{annotation, import_line}
use Rattle.vt_syntax.specs.Inside.Factored.{name_rest, named, plain, comparison, compared_rest, constraint_rest, named_constraint, plain_constraint, line, pattern}
use Rattle.vt_syntax.specs.declared.tree.TermTree.{TermTree}
use Rattle.vt_tokens.proofs.NameLemmas.{named_rest, rest_fails}

-- ---- a term, whose rest is a function of the name before it

pub named_read : (ls rest : List Lexeme) (name : List ℕ) → read identifier ls ≡ Ok (name, rest) → read named ls ≡ read (applied name name_rest) rest
named_read = named_rest identifier name_rest

pub named_fails : (ls : List Lexeme) (n : ℕ) → read identifier ls ≡ Err n → read named ls ≡ Err n
named_fails = rest_fails identifier name_rest

-- ---- a constraint alike

pub constraint_read : (ls rest : List Lexeme) (name : List ℕ) → read identifier ls ≡ Ok (name, rest) → read named_constraint ls ≡ read (applied name constraint_rest) rest
constraint_read = named_rest identifier constraint_rest

pub constraint_fails : (ls : List Lexeme) (n : ℕ) → read identifier ls ≡ Err n → read named_constraint ls ≡ Err n
constraint_fails = rest_fails identifier constraint_rest

pub plain_read : (ls rest : List Lexeme) (t : TermTree) → read plain ls ≡ Ok (t, rest) → read plain_constraint ls ≡ read (applied t comparison) rest
plain_read = named_rest plain comparison

pub plain_fails : (ls : List Lexeme) (n : ℕ) → read plain ls ≡ Err n → read plain_constraint ls ≡ Err n
plain_fails = rest_fails plain comparison

-- ---- a comparison of the term that a name and its rest make

module _ {N A B : Type 0} (name : N) (a : Grammar (N → A)) (b : Grammar (A → B)) where
  -- what the rest of the name makes of it
  term_of : Read (N → A) → Read A
  term_of r = r >>= λ x. Ok (x.0 name, x.1)

  -- and what is then made of that
  whole_of : Read (N → A) → Read B
  whole_of r = ((r >>= λ x. read b x.1 >>= λ y. Ok ((x.0, y.0), y.1)) >>= λ (z : ((N → A) × (A → B)) × List Lexeme). Ok ((λ (m : N). z.0.1 (z.0.0 m)), z.1)) >>= λ (w : (N → B) × List Lexeme). Ok (w.0 name, w.1)

  -- a value and what follows it
  step : A → Read (A → B) → Read B
  step t r = r >>= λ y. Ok (y.0 t, y.1)

  after_step : (f : N → A) (r : Read (A → B))
      → ((r >>= λ y. Ok ((f, y.0), y.1)) >>= λ (z : ((N → A) × (A → B)) × List Lexeme). Ok ((λ (m : N). z.0.1 (z.0.0 m)), z.1)) >>= (λ (w : (N → B) × List Lexeme). Ok (w.0 name, w.1)) ≡ step (f name) r
  unfolding step
  after_step f (Ok y) = refl
  after_step f (Err n) = refl

  goes : (r : Read (N → A)) (t : A) (rest : List Lexeme) → term_of r ≡ Ok (t, rest) → whole_of r ≡ step t (read b rest)
  unfolding term_of whole_of
  goes (Ok x) t rest e =
      let same : (x.0 name, x.1) ≡ (t, rest) = ok_same (x.0 name, x.1) (t, rest) e in
      after_step x.0 (read b x.1) ∙ ap (λ (p : A × List Lexeme). step p.0 (read b p.1)) same
  goes (Err n) t rest e = not_ok n (t, rest) e

  fails : (r : Read (N → A)) (n : ℕ) → term_of r ≡ Err n → whole_of r ≡ Err n
  unfolding term_of whole_of
  fails (Ok x) n e = cc
  fails (Err m) n e = cc

  pub compared_goes : (ls rest : List Lexeme) (t : A) → read (applied name a) ls ≡ Ok (t, rest) → read (applied name (made (λ x m. x.1 (x.0 m)) (seq a b))) ls ≡ read (applied t b) rest
  unfolding read term_of whole_of step
  compared_goes ls rest t e = goes (read a ls) t rest e

  pub compared_stops : (ls : List Lexeme) (n : ℕ) → read (applied name a) ls ≡ Err n → read (applied name (made (λ x m. x.1 (x.0 m)) (seq a b))) ls ≡ Err n
  unfolding read term_of whole_of
  compared_stops ls n e = fails (read a ls) n e

pub compared_read : (ls rest : List Lexeme) (name : List ℕ) (t : TermTree) → read (applied name name_rest) ls ≡ Ok (t, rest) → read (applied name compared_rest) ls ≡ read (applied t comparison) rest
compared_read ls rest name t e = compared_goes name name_rest comparison ls rest t e

pub compared_fails : (ls : List Lexeme) (name : List ℕ) (n : ℕ) → read (applied name name_rest) ls ≡ Err n → read (applied name compared_rest) ls ≡ Err n
compared_fails ls name n e = compared_stops name name_rest comparison ls n e

-- ---- repetitions

pub lines_read : (ls : List Lexeme) → ahead [] (read (star line) ls) ≡ read (star line) ls
lines_read ls = ahead_nil (read (star line) ls)

pub annotations_read : (ls : List Lexeme) → ahead [] (read (star annotation) ls) ≡ read (star annotation) ls
annotations_read ls = ahead_nil (read (star annotation) ls)

pub imports_read : (ls : List Lexeme) → ahead [] (read (star import_line) ls) ≡ read (star import_line) ls
imports_read ls = ahead_nil (read (star import_line) ls)

pub patterns_read : (ls : List Lexeme) → ahead [] (read (star pattern) ls) ≡ read (star pattern) ls
patterns_read ls = ahead_nil (read (star pattern) ls)
