-- A number that was cut down on the way comes to the same as one that is cut down at the end.
use Rattle.std.proofs.Common.{ℕ, ◌≡◌, ◌≤◌, ◌<◌, ◌+◌, ◌*◌, ◌-◌, ◌⊎◌, inl, inr, true, false, Bool, List, [], ◌∷◌, fold, if◌then◌else◌, refl, sym, ◌∙◌, ap, arith}
use Rattle.std.specs.Prelude.{nat_le}
use Rattle.std.proofs.lemmas.Bool.{cases_lt}
use Rattle.std.proofs.lemmas.Bool.Decides.{nat_tests}
use Rattle.vt_tokens.specs.Words.{limited, int_of}
use Rattle.vt_tokens.specs.Inside.Digits.{digits_on}

abbrev read_on : ℕ → List ℕ → ℕ
read_on n bytes = fold (λ m b. m * 10 + (b - 48)) n bytes

-- digits never make a number less
grows : (n : ℕ) (bytes : List ℕ) → n ≤ read_on n bytes
grows n [] = omega arith
grows n (b ∷ bytes) =
    let h : n * 10 + (b - 48) ≤ read_on (n * 10 + (b - 48)) bytes = grows (n * 10 + (b - 48)) bytes in
    omega arith

within : (n : ℕ) → n ≤ 9223372036854775807 → limited n ≡ n
unfolding limited
within n h = grind (arith, nat_tests)

beyond : (n : ℕ) → 9223372036854775807 ≤ n → limited n ≡ 9223372036854775807
unfolding limited
beyond n h = grind (arith, nat_tests)

limited_first : (n : ℕ) (bytes : List ℕ) → limited (read_on (limited n) bytes) ≡ limited (read_on n bytes)
limited_first n bytes = go (cases_lt 9223372036854775807 n)
  where
    go : (9223372036854775807 < n) ⊎ (n ≤ 9223372036854775807) → limited (read_on (limited n) bytes) ≡ limited (read_on n bytes)
    go (inr small) = ap (λ m. limited (read_on m bytes)) (within n small)
    go (inl great) =
        let cut : limited n ≡ 9223372036854775807 = beyond n (omega arith) in
        let long : n ≤ read_on n bytes = grows n bytes in
        ap (λ m. limited (read_on m bytes)) cut
        ∙ beyond (read_on 9223372036854775807 bytes) (grows 9223372036854775807 bytes)
        ∙ sym (beyond (read_on n bytes) (omega arith))

bounded : (n : ℕ) → limited n ≤ 9223372036854775807
unfolding limited
bounded n = grind (arith, nat_tests)

cut_on_the_way : (n : ℕ) (bytes : List ℕ) → n ≤ 9223372036854775807 → digits_on n bytes ≡ limited (read_on n bytes)
cut_on_the_way n [] h = sym (within n h)
cut_on_the_way n (b ∷ bytes) h = cut_on_the_way (limited (n * 10 + (b - 48))) bytes (bounded (n * 10 + (b - 48))) ∙ limited_first (n * 10 + (b - 48)) bytes

pub digits_are : (bytes : List ℕ) → digits_on 0 bytes ≡ int_of bytes
digits_are bytes = cut_on_the_way 0 bytes (omega arith)
