-- One step of each search for an end.
use Rattle.std.proofs.Common.{◌≡◌, ◌≢◌, ℕ, ◌+◌, ◌==◌, ◌&&◌, true, false, List, [], ◌∷◌, Option, Some, None, refl, arith, ap}
use Rattle.std.specs.Prelude.{is_some}
use Rattle.std.proofs.lemmas.Bool.Decides.{nat_tests}
use Rattle.vt_tokens.specs.Lexicon.{escaped}
use Rattle.vt_tokens.specs.Inside.Scan.{plus, string_end, comment_end, begins_with}

-- a length on from another
pub plus_zero : (o : Option ℕ) → plus 0 o ≡ o
plus_zero None = refl
plus_zero (Some n) = ap Some (omega arith)

pub plus_plus : (n k : ℕ) (o : Option ℕ) → plus n (plus k o) ≡ plus (n + k) o
plus_plus n k None = refl
plus_plus n k (Some m) = ap Some (omega arith)

-- a string goes on behind a byte that stands for itself
pub string_plain : (n b : ℕ) (bytes : List ℕ) → b ≢ 34 → b ≢ 10 → b ≢ 92 → plus n (string_end (b ∷ bytes)) ≡ plus (n + 1) (string_end bytes)
string_plain n b [] h k l = grind (arith, nat_tests)
string_plain n b (c ∷ bytes) h k l = grind (arith, nat_tests, plus_plus)

-- and behind an escape
pub string_escape : (n b c : ℕ) (bytes : List ℕ) → b ≡ 92 → is_some (escaped c) ≡ true → plus n (string_end (b ∷ c ∷ bytes)) ≡ plus (n + 2) (string_end bytes)
string_escape n b c bytes h k = grind (arith, nat_tests, plus_plus)

-- a comment goes on behind a byte that doesn't begin its end
pub comment_goes_on : (n b : ℕ) (bytes : List ℕ) → (b == 42 && begins_with 47 bytes) ≡ false → plus n (comment_end (b ∷ bytes)) ≡ plus (n + 1) (comment_end bytes)
comment_goes_on n b bytes h = grind (arith, plus_plus)
