-- Names of documents are ASCII, so they are text.
use Rattle.std.proofs.Common.{◌≡◌, ℕ, ◌<◌, List, [], ◌∷◌, length, Bool, true, IsUtf8, arith}
use Rattle.std.specs.Prelude.{◌&&◌, nat_lt}
use Rattle.std.specs.List.{list_all}
use Rattle.std.proofs.lemmas.Bool.{and_parts, and_from, lt-ltb}
use Rattle.std.proofs.lemmas.Bool.Decides.{nat_tests}
use Rattle.std.proofs.lemmas.Str.{IsUtf8-nil}
use Rattle.json.proofs.Printed.Utf8.{are_ascii, IsUtf8-are_ascii}
use Rattle.vt_json.specs.Names.{begins_name, continues_identifier, continues_object_name, is_name}

-- ---- bytes of names

-- a byte that begins a name is ASCII
below-begins : (b : ℕ) → begins_name b ≡ true → b < 128
below-begins b e = grind (arith, nat_tests)

-- so is one of an identifier
pub below-identifier : (b : ℕ) → continues_identifier b ≡ true → b < 128
below-identifier b e = grind (arith, nat_tests)

-- and one of an object's name
pub below-object_name : (b : ℕ) → continues_object_name b ≡ true → b < 128
below-object_name b e = grind (arith, nat_tests)

-- ---- names

module _ (continues : ℕ → Bool) (small : (b : ℕ) → continues b ≡ true → b < 128) where
  -- bytes that are ASCII, as a test
  are_ascii-list_all : (bs : List ℕ) → list_all continues bs ≡ true → are_ascii bs ≡ true
  are_ascii-list_all [] e = e
  are_ascii-list_all (b ∷ bs) e =
      let parts = and_parts (continues b) (list_all continues bs) e in
      and_from (nat_lt b 128) (are_ascii bs) (lt-ltb b 128 (small b parts.0)) (are_ascii-list_all bs parts.1)

  -- a name is text
  pub IsUtf8-is_name : (name : List ℕ) → is_name continues name ≡ true → IsUtf8 name
  IsUtf8-is_name [] e = IsUtf8-nil
  IsUtf8-is_name (b ∷ bs) e =
      let parts = and_parts (begins_name b && list_all continues bs) (nat_lt (length bs) 64) e in
      let both = and_parts (begins_name b) (list_all continues bs) parts.0 in
      IsUtf8-are_ascii (b ∷ bs) (and_from (nat_lt b 128) (are_ascii bs) (lt-ltb b 128 (below-begins b both.0)) (are_ascii-list_all bs both.1))
