-- The text that a string in double quotes stands for.
use Rattle.std.specs.Prelude.{◌≡◌, ℕ, ◌==◌, if◌then◌else◌, List, [], ◌∷◌, ◌++◌, codes, Option, Some, None}
use Rattle.vt_facts.specs.Parts.{◌>>=◌, with_front}
use Rattle.vt_tokens.specs.Lexicon.{is_plain, escaped, Writes}

abbrev mutual
  -- what is written behind a quote, up to the quote that ends the bytes
  pub unquoted : List ℕ → Option (List ℕ)
  unquoted [] = None
  unquoted (b ∷ bs) = if b == 34 then at_end bs else if b == 92 then unescaped bs else if is_plain b then with_front (b ∷ []) (unquoted bs) else None

  -- nothing may follow
  pub at_end : List ℕ → Option (List ℕ)
  at_end [] = Some []
  at_end (b ∷ bs) = None

  -- behind a `\`
  pub unescaped : List ℕ → Option (List ℕ)
  unescaped [] = None
  unescaped (b ∷ bs) = escaped b >>= λ c. with_front (c ∷ []) (unquoted bs)

-- the text of a string, and none of what isn't one
abbrev pub quoted : List ℕ → Option (List ℕ)
quoted [] = None
quoted (b ∷ bs) = if b == 34 then unquoted bs else None

-- the bytes are a string in double quotes that stands for the text
pub record IsStringOf (bytes text : List ℕ) : Type 0 where
  pub inner : List ℕ
  pub quotes : bytes ≡ codes "\"" ++ inner ++ codes "\""
  pub writes : Writes inner text
