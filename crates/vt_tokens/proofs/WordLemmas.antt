-- Words and numbers that are found stand there.
use Rattle.std.proofs.Common.{◌≡◌, ℕ, ◌+◌, ◌-◌, ◌*◌, ◌≤◌, ◌==◌, ◌&&◌, nat_le, true, false, cond, List, [], ◌∷◌, length, take, Some, fold, refl, sym, ◌∙◌, ap, arith, take_at}
use Rattle.std.specs.List.{list_all, prefix_len}
use Rattle.std.specs.Char.{is_ascii_digit}
use Rattle.std.proofs.lemmas.List.{nil_from_length}
use Rattle.std.proofs.lemmas.Bool.Decides.{nat_tests}
use Rattle.vt_tokens.specs.Lexicon.{begins_word, goes_on, NoneNext, Stands}
use Rattle.vt_tokens.specs.Inside.Scan.{cut_word, cut_number, is_numeral, word_kind, piece_if}
use Rattle.vt_tokens.specs.declared.token.TokenKind.TheVariants.{Word, Blank, Number}
use Rattle.vt_tokens.proofs.TestLemmas.{both_true, le_is}
use Rattle.vt_tokens.proofs.FrontLemmas.{prefix_run, Sound}
use Rattle.vt_facts.proofs.NumberLemmas.{equal_numbers}

-- Words.

no_blank : (b n : ℕ) → b ≡ 95 → n ≡ 0 → (b == 95 && n == 0) ≡ false → ⊥
no_blank b n h k e = grind (arith, nat_tests)

word_stands : (b n : ℕ) (front back : List ℕ) → begins_word b ≡ true → list_all goes_on front ≡ true → NoneNext goes_on back → length front ≡ n → Stands (Some (word_kind b n)) (b ∷ front) back
word_stands b n front back h all stops long =
    elim (b == 95 && n == 0) as (λ t. (b == 95 && n == 0) ≡ t → Stands (Some (cond t Blank Word)) (b ∷ front) back) [
      | true ↦ λ e.
          let parts = both_true (b == 95) (n == 0) e in
          let none : front ≡ [] = nil_from_length front (long ∙ equal_numbers n 0 parts.1) in
          (cc (equal_numbers b 95 parts.0, none), stops)
      | false ↦ λ e.
          ((h, all, λ same. let first : b ≡ 95 = cc in let none : front ≡ [] = cc in let zero : n ≡ 0 = sym long ∙ ap length none in no_blank b n first zero e), stops)
    ] refl

pub sound-word : (b : ℕ) (rest : List ℕ) → begins_word b ≡ true → Sound (b ∷ rest) (cut_word b rest)
sound-word b rest h =
    let r = prefix_run goes_on rest in
    record { front = b ∷ r.front; back = r.back; whole = ap (λ l. b ∷ l) r.whole; long = omega (arith, r.long); stands = word_stands b _ r.front r.back h r.pass r.stops r.long }

-- Numbers.

fold_grows : (n : ℕ) (bytes : List ℕ) → n ≤ fold (λ n b. n * 10 + (b - 48)) n bytes
fold_grows n [] = omega arith
fold_grows n (b ∷ bytes) = omega (arith, fold_grows (n * 10 + (b - 48)) bytes)

pub numeral_exact : (n : ℕ) (bytes : List ℕ) → list_all is_ascii_digit bytes ≡ true → fold (λ n b. n * 10 + (b - 48)) n bytes ≤ 9223372036854775807 → is_numeral n bytes ≡ true
numeral_exact n [] h k = refl
numeral_exact n (b ∷ bytes) h k =
    let parts = both_true (is_ascii_digit b) (list_all is_ascii_digit bytes) h in
    let within : nat_le (n * 10 + (b - 48)) 9223372036854775807 ≡ true = grind (arith, nat_tests, fold_grows (n * 10 + (b - 48)) bytes) in
    rw parts.0 (rw within (numeral_exact (n * 10 + (b - 48)) bytes parts.1 k))

numeral_sound : (n : ℕ) (bytes : List ℕ) → n ≤ 9223372036854775807 → is_numeral n bytes ≡ true → (list_all is_ascii_digit bytes ≡ true) × (fold (λ n b. n * 10 + (b - 48)) n bytes ≤ 9223372036854775807)
numeral_sound n [] k h = (refl, k)
numeral_sound n (b ∷ bytes) k h =
    elim (is_ascii_digit b) as (λ t. is_ascii_digit b ≡ t → cond t (cond (nat_le (n * 10 + (b - 48)) 9223372036854775807) (is_numeral (n * 10 + (b - 48)) bytes) false) false ≡ true → ((is_ascii_digit b && list_all is_ascii_digit bytes) ≡ true) × (fold (λ n b. n * 10 + (b - 48)) (n * 10 + (b - 48)) bytes ≤ 9223372036854775807)) [
      | true ↦ λ d.
          elim (nat_le (n * 10 + (b - 48)) 9223372036854775807) as (λ t. nat_le (n * 10 + (b - 48)) 9223372036854775807 ≡ t → cond t (is_numeral (n * 10 + (b - 48)) bytes) false ≡ true → ((is_ascii_digit b && list_all is_ascii_digit bytes) ≡ true) × (fold (λ n b. n * 10 + (b - 48)) (n * 10 + (b - 48)) bytes ≤ 9223372036854775807)) [
            | true ↦ λ w e. let r = numeral_sound (n * 10 + (b - 48)) bytes (le_is _ _ w) e in (rw d r.0, r.1)
            | false ↦ λ w e. absurd (cc)
          ] refl
      | false ↦ λ d e. absurd (cc)
    ] refl h

pub sound-number : (b : ℕ) (rest : List ℕ) → Sound (b ∷ rest) (cut_number b rest)
sound-number b rest =
    let r = prefix_run goes_on rest in
    let digits : take (prefix_len goes_on rest) rest ≡ r.front = ap (take (prefix_len goes_on rest)) r.whole ∙ take_at r.front r.back _ r.long in
    elim (is_numeral 0 (b ∷ take (prefix_len goes_on rest) rest)) as (λ t. is_numeral 0 (b ∷ take (prefix_len goes_on rest) rest) ≡ t → Sound (b ∷ rest) (piece_if t (Some Number) (1 + prefix_len goes_on rest))) [
      | true ↦ λ h.
          let is : is_numeral 0 (b ∷ r.front) ≡ true = sym (ap (λ l. is_numeral 0 (b ∷ l)) digits) ∙ h in
          let parts = numeral_sound 0 (b ∷ r.front) (omega arith) is in
          record { front = b ∷ r.front; back = r.back; whole = ap (λ l. b ∷ l) r.whole; long = omega (arith, r.long); stands = ((λ e. cc, parts.0, parts.1), r.stops) }
      | false ↦ λ _. tt
    ] refl
