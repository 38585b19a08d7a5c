-- The front of a text: its first byte, and those bytes that pass a test.
use Rattle.std.proofs.Common.{◌≡◌, ◌⊎◌, ℕ, ◌+◌, ◌==◌, ◌||◌, Bool, true, false, cond, List, [], ◌∷◌, ◌++◌, length, Option, Some, None, refl, ap, arith}
use Rattle.std.specs.List.{list_all, prefix_len}
use Rattle.std.specs.Char.{is_ascii_digit}
use Rattle.std.proofs.lemmas.Bool.Decides.{nat_tests}
use Rattle.vt_tokens.specs.Lexicon.{begins_word, goes_on, NoneNext, Stands}
use Rattle.vt_tokens.specs.Inside.Scan.{opening}
use Rattle.vt_tokens.specs.declared.piece.Opening.{Opening}
use Rattle.vt_tokens.specs.declared.piece.Opening.TheVariants.{Letter, Digit, Quote, Return, Space, Other}
use Rattle.vt_tokens.specs.declared.piece.Cut.{Cut}
use Rattle.vt_tokens.proofs.TestLemmas.{both_true}
use Rattle.vt_facts.proofs.BoolLemmas.{or_right}
use Rattle.vt_facts.proofs.NumberLemmas.{equal_numbers}

-- Runs.

pub digits_go_on : (bytes : List ℕ) → list_all is_ascii_digit bytes ≡ true → list_all goes_on bytes ≡ true
digits_go_on [] h = refl
digits_go_on (b ∷ bytes) h =
    let parts = both_true (is_ascii_digit b) (list_all is_ascii_digit bytes) h in
    cc (or_right (begins_word b) (is_ascii_digit b) parts.0, digits_go_on bytes parts.1)

-- the front whose bytes pass a test
pub record Run (test : ℕ → Bool) (text : List ℕ) (len : ℕ) : Type 0 where
  pub front : List ℕ
  pub back : List ℕ
  pub whole : text ≡ front ++ back
  pub long : length front ≡ len
  pub pass : list_all test front ≡ true
  pub stops : NoneNext test back

pub prefix_exact : (test : ℕ → Bool) (front back : List ℕ) → list_all test front ≡ true → NoneNext test back → prefix_len test (front ++ back) ≡ length front
prefix_exact test [] [] h s = refl
prefix_exact test [] (b ∷ back) h s = rw s refl
prefix_exact test (b ∷ front) back h s =
    let parts = both_true (test b) (list_all test front) h in
    rw parts.0 (omega (arith, prefix_exact test front back parts.1 s))

pub prefix_run : (test : ℕ → Bool) (text : List ℕ) → Run test text (prefix_len test text)
prefix_run test [] = record { front = []; back = []; whole = refl; long = refl; pass = refl; stops = tt }
prefix_run test (b ∷ text) =
    elim (test b) as (λ t. test b ≡ t → Run test (b ∷ text) (cond t (1 + prefix_len test text) 0)) [
      | true ↦ λ h.
          let r = prefix_run test text in
          record { front = b ∷ r.front; back = r.back; whole = ap (λ l. b ∷ l) r.whole; long = omega (arith, r.long); pass = rw h r.pass; stops = r.stops }
      | false ↦ λ h. record { front = []; back = b ∷ text; whole = refl; long = refl; pass = refl; stops = h }
    ] refl

-- First bytes.

abbrev pub Opens : ℕ → Opening → Type 0
Opens b Letter = begins_word b ≡ true
Opens b Digit = is_ascii_digit b ≡ true
Opens b Quote = b ≡ 34
Opens b Return = b ≡ 13
Opens b Space = (b ≡ 32) ⊎ (b ≡ 9) ⊎ (b ≡ 10)
Opens b Other = Unit {0}

space_is : (b : ℕ) → (b == 32 || b == 9 || b == 10) ≡ true → (b ≡ 32) ⊎ (b ≡ 9) ⊎ (b ≡ 10)
space_is b h = grind (arith, nat_tests)

pub opens : (b : ℕ) → Opens b (opening b)
unfolding opening
opens b =
    elim (begins_word b) as (λ t. begins_word b ≡ t → Opens b (cond t Letter (cond (is_ascii_digit b) Digit (cond (b == 34) Quote (cond (b == 13) Return (cond (b == 32 || b == 9 || b == 10) Space Other)))))) [
      | true ↦ λ h. h
      | false ↦ λ _.
          elim (is_ascii_digit b) as (λ t. is_ascii_digit b ≡ t → Opens b (cond t Digit (cond (b == 34) Quote (cond (b == 13) Return (cond (b == 32 || b == 9 || b == 10) Space Other))))) [
            | true ↦ λ h. h
            | false ↦ λ _.
                elim (b == 34) as (λ t. (b == 34) ≡ t → Opens b (cond t Quote (cond (b == 13) Return (cond (b == 32 || b == 9 || b == 10) Space Other)))) [
                  | true ↦ λ h. equal_numbers b 34 h
                  | false ↦ λ _.
                      elim (b == 13) as (λ t. (b == 13) ≡ t → Opens b (cond t Return (cond (b == 32 || b == 9 || b == 10) Space Other))) [
                        | true ↦ λ h. equal_numbers b 13 h
                        | false ↦ λ _.
                            elim (b == 32 || b == 9 || b == 10) as (λ t. (b == 32 || b == 9 || b == 10) ≡ t → Opens b (cond t Space Other)) [
                              | true ↦ λ h. space_is b h
                              | false ↦ λ _. tt
                            ] refl
                      ] refl
                ] refl
          ] refl
    ] refl

pub opening-letter : (b : ℕ) → begins_word b ≡ true → opening b ≡ Letter
unfolding opening
opening-letter b h = rw h refl

digit_begins_no_word : (b : ℕ) → is_ascii_digit b ≡ true → begins_word b ≡ false
digit_begins_no_word b h = grind (arith, nat_tests)

pub opening-digit : (b : ℕ) → is_ascii_digit b ≡ true → opening b ≡ Digit
unfolding opening
opening-digit b h = rw (digit_begins_no_word b h) (rw h refl)

-- what is found of the front of a text
pub record Found (text : List ℕ) (c : Cut) : Type 0 where
  pub front : List ℕ
  pub back : List ℕ
  pub whole : text ≡ front ++ back
  pub long : length front ≡ c.len
  pub stands : Stands c.kind front back

abbrev pub Sound : List ℕ → Option Cut → Type 0
Sound text None = Unit {0}
Sound text (Some c) = Found text c
