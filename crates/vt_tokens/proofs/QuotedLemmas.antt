-- What is read as a string is one.
use Rattle.std.proofs.Common.{◌≡◌, ◌↔◌, ◌≢◌, ℕ, Bool, true, false, cond, List, [], ◌∷◌, ◌++◌, Option, Some, None, refl, ◌∙◌, ap, subst}
use Rattle.std.specs.Prelude.{◌==◌}
use Rattle.std.proofs.lemmas.Bool.{ne_eqb}
use Rattle.vt_facts.specs.Parts.{with_front, ◌>>=◌}
use Rattle.vt_facts.proofs.NumberLemmas.{equal_numbers}
use Rattle.vt_tokens.specs.Lexicon.{is_plain, escaped, Writes}
use Rattle.vt_tokens.specs.Lexicon.Writes.{nothing, plain, escape}
use Rattle.vt_tokens.specs.Quoting.{unquoted, at_end, quoted, IsStringOf}
use Rattle.vt_tokens.proofs.UnquotedLemmas.{plain_byte}

-- ---- what is written is read

pub reads : {inner text : List ℕ} → Writes inner text → unquoted (inner ++ 34 ∷ []) ≡ Some text
reads nothing = refl
reads (plain b {bytes} h w) = plain_byte b (bytes ++ 34 ∷ []) h ∙ ap (with_front (b ∷ [])) (reads w)
reads (escape b c {bytes} h w) = ap (λ o. o >>= λ d. with_front (d ∷ []) (unquoted (bytes ++ 34 ∷ []))) h ∙ ap (with_front (c ∷ [])) (reads w)

-- ---- what is read is written

pub record Written (bytes text : List ℕ) : Type 0 where
  pub inner : List ℕ
  pub closed : bytes ≡ inner ++ 34 ∷ []
  pub writes : Writes inner text

abbrev AreWritten : List ℕ → Option (List ℕ) → Type 0
AreWritten bytes None = Unit {0}
AreWritten bytes (Some text) = Written bytes text

at_the_end : (b : ℕ) (bytes : List ℕ) → b ≡ 34 → AreWritten (b ∷ bytes) (at_end bytes)
at_the_end b [] e = record { inner = []; closed = ap (λ x. x ∷ []) e; writes = nothing }
at_the_end b (c ∷ bytes) e = tt

after_plain : (b : ℕ) (bytes : List ℕ) (o : Option (List ℕ)) → is_plain b ≡ true → AreWritten bytes o → AreWritten (b ∷ bytes) (with_front (b ∷ []) o)
after_plain b bytes None h s = tt
after_plain b bytes (Some text) h s = record { inner = b ∷ s.inner; closed = ap (λ l. b ∷ l) s.closed; writes = plain b h s.writes }

after_escape : (b c : ℕ) (bytes : List ℕ) (e : Option ℕ) (o : Option (List ℕ)) → b ≡ 92 → escaped c ≡ e → AreWritten bytes o
    → AreWritten (b ∷ c ∷ bytes) (e >>= λ d. with_front (d ∷ []) o)
after_escape b c bytes None o h k s = tt
after_escape b c bytes (Some d) None h k s = tt
after_escape b c bytes (Some d) (Some text) h k s = record { inner = 92 ∷ c ∷ s.inner; closed = cc (h, s.closed); writes = escape c d k s.writes }

step : (b : ℕ) (bytes : List ℕ) (s t u : Bool) (x y z : Option (List ℕ)) → (s ≡ true → AreWritten (b ∷ bytes) x) → (t ≡ true → AreWritten (b ∷ bytes) y)
    → (u ≡ true → AreWritten (b ∷ bytes) z) → AreWritten (b ∷ bytes) (cond s x (cond t y (cond u z None)))
step b bytes true t u x y z f g h = f refl
step b bytes false true u x y z f g h = g refl
step b bytes false false true x y z f g h = h refl
step b bytes false false false x y z f g h = tt

written : (bytes : List ℕ) → AreWritten bytes (unquoted bytes)
written [] = tt
written (b ∷ []) = step b [] (b == 34) (b == 92) (is_plain b) (Some []) None None (λ e. at_the_end b [] (equal_numbers b 34 e)) (λ _. tt) (λ _. tt)
written (b ∷ c ∷ bytes) = step b (c ∷ bytes) (b == 34) (b == 92) (is_plain b) None (escaped c >>= λ d. with_front (d ∷ []) (unquoted bytes)) (with_front (b ∷ []) (unquoted (c ∷ bytes)))
    (λ _. tt)
    (λ e. after_escape b c bytes (escaped c) (unquoted bytes) (equal_numbers b 92 e) refl (written bytes))
    (λ e. after_plain b (c ∷ bytes) (unquoted (c ∷ bytes)) e (written (c ∷ bytes)))

string_is : (bytes text : List ℕ) → quoted bytes ≡ Some text → IsStringOf bytes text
string_is [] text e = absurd (cc e)
string_is (b ∷ bytes) text e =
    elim (b == 34) as (λ t. (b == 34) ≡ t → cond t (unquoted bytes) None ≡ Some text → IsStringOf (b ∷ bytes) text) [
      | true ↦ λ h k.
          let w : Written bytes text = subst (AreWritten bytes) k (written bytes) in
          record { inner = w.inner; quotes = cc (equal_numbers b 34 h, w.closed); writes = w.writes }
      | false ↦ λ h k. absurd (cc k)
    ] refl e

pub strings : (bytes text : List ℕ) → (quoted bytes ≡ Some text) ↔ IsStringOf bytes text
strings bytes text = (string_is bytes text, λ s. ap quoted s.quotes ∙ reads s.writes)

-- ---- the quote in front

-- a string begins with a quote
pub not_quoted : (bytes : List ℕ) → ((rest : List ℕ) → bytes ≢ 34 ∷ rest) → quoted bytes ≡ None
not_quoted [] none = refl
not_quoted (b ∷ bs) none = rw (ne_eqb b 34 (λ e. none bs (ap (λ x. x ∷ bs) e))) refl

pub behind : (bytes rest : List ℕ) → bytes ≡ 34 ∷ rest → quoted bytes ≡ unquoted rest
behind bytes rest e = ap quoted e
