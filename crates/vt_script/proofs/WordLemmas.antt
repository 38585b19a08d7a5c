-- Where a line is cut, and the numbers that digits write.
use Rattle.std.proofs.Common.{◌≡◌, ℕ, ◌+◌, ◌*◌, ◌-◌, ◌<◌, ◌^◌, true, false, cond, ◌&&◌, List, [], ◌∷◌, length, get_or, fold, Option, Some, None, refl, sym, ap, arith, rules}
use Rattle.std.specs.Prelude.{◌==◌, ◌≢◌, ◌≤◌, MatchOption, option_map, nat_lt, nat_le, pos, neg_ℤ, Ok, Err}
use Rattle.std.specs.List.{position_or_len, before_first, after_first, list_all}
use Rattle.std.specs.Char.{is_ascii_digit}
use Rattle.std.specs.Str.Parse.{ParsesUnsigned}
use Rattle.std.proofs.lemmas.Bool.{ne_eqb}
use Rattle.std.proofs.lemmas.Bool.Decides.{nat_tests}
use Rattle.std.proofs.lemmas.Str.Parse.{IsNumeralModel, numerals_by_fold, parse_plain}
use Rattle.vt_tokens.specs.Lexicon.{number_of}
use Rattle.vt_script.specs.Words.{cut, is_numeral, number, integer}
use Rattle.vt_facts.proofs.BoolLemmas.{and_left, and_right}
use denote.Ref.{Bor}

-- no place is found past the end, and one before it is
place : (p n : ℕ) → p ≡ n → nat_lt p n ≡ false
place p n e = grind (arith, nat_tests)

within : (p n : ℕ) → p < n → nat_lt p n ≡ true
within p n l = grind (arith, nat_tests)

pub cut_is : (bytes : List ℕ) (r : Option (Bor (List ℕ) × Bor (List ℕ)))
    → MatchOption r (position_or_len (λ b. b == 32) bytes ≡ length bytes)
    (λ x. (position_or_len (λ b. b == 32) bytes < length bytes) × (x.0.now ≡ before_first (λ b. b == 32) bytes) × (x.1.now ≡ after_first (λ b. b == 32) bytes))
    → option_map (λ parts. (parts.0.now, parts.1.now)) r ≡ cut bytes
cut_is bytes None e = rw (place (position_or_len (λ b. b == 32) bytes) (length bytes) e) refl
cut_is bytes (Some x) h = rw (within (position_or_len (λ b. b == 32) bytes) (length bytes) h.0) (rw h.1 (rw h.2 refl))

-- the digits of the library are these
own : IsNumeralModel (λ ds. list_all is_ascii_digit ds ≡ true) number_of
own = numerals_by_fold _ (search rules) (λ n ds. fold (λ m b. m * 10 + (b - 48)) n ds) (search rules)

numeral_is : (word : List ℕ) → list_all is_ascii_digit word ≡ true → 0 < length word → is_numeral word ≡ true
numeral_is [] all some = absurd (omega arith)
numeral_is (b ∷ bs) all some = all

numeral_has : (word : List ℕ) → is_numeral word ≡ true → (list_all is_ascii_digit word ≡ true) × (0 < length word)
numeral_has [] e = absurd (cc e)
numeral_has (b ∷ bs) e = (e, omega arith)

-- a sign is no digit
pub signed : (most : ℕ) (word : List ℕ) → get_or word 0 0 ≡ 43 → number most word ≡ None
signed most [] e = refl
signed most (b ∷ bs) e = rw e refl

-- what is parsed, where it is at most this, and where it is more
pub parsed_within : (most : ℕ) (word : List ℕ) (n : ℕ) → ParsesUnsigned {E = ℕ} 64 10 word (Ok n) → get_or word 0 0 ≢ 43 → n ≤ most → number most word ≡ Some n
parsed_within most word n h plain small =
    let read = parse_plain own {E = ℕ} 64 word (Ok n) h plain in
    let test : nat_le (number_of word) most ≡ true = grind (arith, nat_tests, read.1) in
    rw (numeral_is word read.0.0 read.0.1) (rw test (ap Some (sym read.1)))

pub parsed_above : (most : ℕ) (word : List ℕ) (n : ℕ) → ParsesUnsigned {E = ℕ} 64 10 word (Ok n) → get_or word 0 0 ≢ 43 → most < n → number most word ≡ None
parsed_above most word n h plain great =
    let read = parse_plain own {E = ℕ} 64 word (Ok n) h plain in
    let test : nat_le (number_of word) most ≡ false = grind (arith, nat_tests, read.1) in
    rw (numeral_is word read.0.0 read.0.1) (rw test refl)

-- what is not parsed has no digits, or is too great
pub unparsed : (most : ℕ) (word : List ℕ) {E : Type 0} (e : E) → most < 2 ^ 64 → ParsesUnsigned 64 10 word (Err e) → get_or word 0 0 ≢ 43 → number most word ≡ None
unparsed most word e small h plain =
    elim (is_numeral word && nat_le (number_of word) most) as (λ t. (is_numeral word && nat_le (number_of word) most) ≡ t → cond t (Some (number_of word)) None ≡ None) [
      | true ↦ λ holds.
          let digits = numeral_has word (and_left (is_numeral word) (nat_le (number_of word) most) holds) in
          let test : nat_le (number_of word) most ≡ true = and_right (is_numeral word) (nat_le (number_of word) most) holds in
          let little : number_of word < 2 ^ 64 = grind (arith, nat_tests) in
          absurd (parse_plain own 64 word (Err e) h plain (digits.0, digits.1, little))
      | false ↦ λ _. refl
    ] refl

-- a number with no sign before it
pub unsigned : (bytes : List ℕ) → ((rest : List ℕ) → bytes ≢ 45 ∷ rest) → integer bytes ≡ option_map pos (number 9223372036854775807 bytes)
unsigned [] none = refl
unsigned (b ∷ bs) none = rw (ne_eqb b 45 (λ e. none bs (ap (λ x. x ∷ bs) e))) refl

-- behind a sign
pub negative : (bytes rest : List ℕ) → bytes ≡ 45 ∷ rest → integer bytes ≡ option_map (λ n. neg_ℤ (pos n)) (number 9223372036854775807 rest)
negative bytes rest e = ap integer e
