-- The tokens that a text spells, and where the first text stands that is none.
use Rattle.std.specs.Prelude.{◌≡◌, ◌≢◌, ℕ, ◌+◌, ◌==◌, List, [], ◌∷◌, ◌++◌, length, count_by, Option, Some, None}
use Rattle.std.specs.List.{flat_map}
use Rattle.vt_tokens.specs.Lexicon.{Stands}
use Rattle.vt_tokens.specs.declared.token.TokenKind.{TokenKind}
use Rattle.vt_tokens.specs.declared.token.Token.{Token}

-- a token of a kind, or with no kind what stands between tokens
pub record Piece : Type 0 where
  pub kind : Option TokenKind
  pub bytes : List ℕ

-- the text is these pieces in a row, each of which stands there, and then the rest
abbrev pub IsCutInto : List ℕ → List Piece → List ℕ → Type 0
IsCutInto text [] rest = text ≡ rest
IsCutInto text (p ∷ pieces) rest = (after : List ℕ) × (text ≡ p.bytes ++ after) × Stands p.kind p.bytes after × IsCutInto after pieces rest

-- the pieces joined
abbrev pub joined : List Piece → List ℕ
joined pieces = flat_map (λ p. p.bytes) pieces

-- the line that a text comes to
abbrev pub line_after : List ℕ → ℕ
line_after text = 1 + count_by (λ b. b == 10) text

-- a piece as a token, where it is one, after the text before it
abbrev pub token_after : List ℕ → Option TokenKind → List ℕ → List Token
token_after before None bytes = []
token_after before (Some kind) bytes = record { kind = kind; start = length before; end = length before + length bytes; line = line_after before } ∷ []

-- the tokens among pieces, after the text before them
abbrev pub tokens_after : List ℕ → List Piece → List Token
tokens_after before [] = []
tokens_after before (p ∷ pieces) = token_after before p.kind p.bytes ++ tokens_after (before ++ p.bytes) pieces

-- the whole text is pieces, and these are the tokens among them
pub record Spells (text : List ℕ) (tokens : List Token) : Type 0 where
  pub pieces : List Piece
  pub cut : IsCutInto text pieces []
  pub are : tokens ≡ tokens_after [] pieces

-- after some pieces something is left at whose front no piece stands, and it begins on this line
pub record IsBadAt (text : List ℕ) (line : ℕ) : Type 0 where
  pub pieces : List Piece
  pub rest : List ℕ
  pub cut : IsCutInto text pieces rest
  pub left : rest ≢ []
  pub none : (kind : Option TokenKind) (bytes after : List ℕ) → rest ≡ bytes ++ after → Stands kind bytes after → ⊥
  pub on : line ≡ line_after (joined pieces)

-- these are neighbours among the tokens that the text spells
pub record AreAmong (text : List ℕ) (tokens : List Token) : Type 0 where
  pub before : List Token
  pub after : List Token
  pub spelled : Spells text (before ++ tokens ++ after)
