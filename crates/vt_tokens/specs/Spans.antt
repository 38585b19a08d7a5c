-- Where tokens stand in their text.
use Rattle.std.specs.Prelude.{◌≡◌, ℕ, ◌<◌, ◌≤◌, List, [], ◌∷◌, length, take, drop, slice_range, Some}
use Rattle.vt_tokens.specs.Lexicon.{Stands}
use Rattle.vt_tokens.specs.Spelling.{line_after}
use Rattle.vt_tokens.specs.declared.token.Token.{Token}

-- the token is a slice of the text from some place on, and its kind and its line are those there
pub record IsSlice (text : List ℕ) (from : ℕ) (t : Token) : Type 0 where
  pub after : from ≤ t.start
  pub some : t.start < t.end
  pub within : t.end ≤ length text
  pub stands : Stands (Some t.kind) (slice_range text t.start t.end) (drop t.end text)
  pub on : t.line ≡ line_after (take t.start text)

-- and each token's slice begins where the one before has ended, or later
abbrev pub AreSlices : List ℕ → ℕ → List Token → Type 0
AreSlices text from [] = Unit {0}
AreSlices text from (t ∷ tokens) = IsSlice text from t × AreSlices text t.end tokens
