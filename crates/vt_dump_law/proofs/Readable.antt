-- Data that is read back from its text, and its numbers.
use Rattle.std.proofs.Common.{◌≡◌, ℕ, suc, ◌^◌, ◌<◌, pos, negsuc, [], ◌∷◌, Some, IsUtf8, refl, subst, arith, inl, inr}
use Rattle.std.specs.Prelude.{⊤}
use Rattle.std.specs.List.Sorted.{IsStrictlySortedBy}
use Rattle.std.specs.Cmp.Lexicographic.{slice_cmp}
use Rattle.std.specs.Ordering.{nat_cmp}
use Rattle.std.proofs.lemmas.Bool.{cases_lt}
use Rattle.std.proofs.lemmas.Fmt.{IsAscii-decimal}
use Rattle.std.proofs.lemmas.Str.{IsUtf8-append, IsUtf8-from_ascii}
use Rattle.std.specs.Fmt.{digits, signed_decimal}
use Rattle.json.specs.Print.{IsNumber}
use Rattle.json.specs.Word.{after_number}
use Rattle.json.proofs.Printed.Decimals.{IsNumber-decimal, IsNumber-signed_decimal}
use Rattle.json.proofs.Printed.Utf8.{IsUtf8-are_ascii}
use Rattle.serde_json.specs.Data.{Num, unsigned, negative, float, Data, null, boolean, number, string, array, object, Items, no_items, item, Members, no_members, member}
use Rattle.serde_json.specs.Read.{number_of}
use Rattle.serde_json.specs.Written.{number_text}
use Rattle.serde_json.proofs.Numbers.{number_of-decimal, number_of-negative}
use Rattle.vt_json.specs.Shape.{keys_of}

-- ---- what data has to be

-- a whole number of 64 bits
abbrev pub IsReadableNumber : Num → Type 0
IsReadableNumber (unsigned n) = n < 2 ^ 64
IsReadableNumber (negative (pos n)) = ⊥
IsReadableNumber (negative (negsuc n)) = n < 2 ^ 63
IsReadableNumber (float x) = ⊥

-- keys rise
abbrev pub KeysRise : Members → Type 0
KeysRise ms = IsStrictlySortedBy (slice_cmp nat_cmp) (keys_of ms)

-- whole numbers have 64 bits, texts are UTF-8, and the keys of each object rise
abbrev mutual
  pub IsReadable : Data → Type 0
  IsReadable null = ⊤
  IsReadable (boolean b) = ⊤
  IsReadable (number n) = IsReadableNumber n
  IsReadable (string s) = IsUtf8 s
  IsReadable (array ds) = AreReadable ds
  IsReadable (object ms) = KeysRise ms × MembersAreReadable ms

  pub AreReadable : Items → Type 0
  AreReadable no_items = ⊤
  AreReadable (item d ds) = IsReadable d × AreReadable ds

  pub MembersAreReadable : Members → Type 0
  MembersAreReadable no_members = ⊤
  MembersAreReadable (member k d ms) = IsUtf8 k × IsReadable d × MembersAreReadable ms

-- ---- numbers

-- its text is read as the number
pub number_of-number_text : (n : Num) → IsReadableNumber n → number_of (number_text n) ≡ Some n
number_of-number_text (unsigned n) fits = number_of-decimal n fits
number_of-number_text (negative (pos n)) fits = absurd fits
number_of-number_text (negative (negsuc n)) fits = number_of-negative n fits
number_of-number_text (float x) fits = absurd fits

-- the least number
IsNumber-least : IsNumber (signed_decimal (negsuc 9223372036854775807))
unfolding after_number digits
IsNumber-least = refl

-- each number below zero
IsNumber-negsuc : (n : ℕ) → n < 2 ^ 63 → IsNumber (signed_decimal (negsuc n))
IsNumber-negsuc n fits = elim (cases_lt n 9223372036854775807) [
  | inl less ↦ IsNumber-signed_decimal (negsuc n) (omega arith)
  | inr most ↦ (let is : 9223372036854775807 ≡ n = omega arith in subst (λ m. IsNumber (signed_decimal (negsuc m))) is IsNumber-least)
]

-- its text is a number of JSON
pub IsNumber-number_text : (n : Num) → IsReadableNumber n → IsNumber (number_text n)
IsNumber-number_text (unsigned n) fits = IsNumber-decimal n fits
IsNumber-number_text (negative (pos n)) fits = absurd fits
IsNumber-number_text (negative (negsuc n)) fits = IsNumber-negsuc n fits
IsNumber-number_text (float x) fits = absurd fits

-- and ASCII
pub IsUtf8-number_text : (n : Num) → IsReadableNumber n → IsUtf8 (number_text n)
IsUtf8-number_text (unsigned n) fits = IsUtf8-from_ascii _ (IsAscii-decimal n fits)
IsUtf8-number_text (negative (pos n)) fits = absurd fits
IsUtf8-number_text (negative (negsuc n)) fits = IsUtf8-append (45 ∷ []) _ (IsUtf8-are_ascii (45 ∷ []) refl) (IsUtf8-from_ascii _ (IsAscii-decimal (suc n) (omega arith)))
IsUtf8-number_text (float x) fits = absurd fits
