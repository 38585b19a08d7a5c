-- How far the tokens of a text are found.
use Rattle.std.specs.Prelude.{◌≡◌, ℕ, ◌+◌, ◌<◌, ◌≤◌, List, [], ◌++◌, length, take, drop, Option, Some, None, ◌∷◌}
use Rattle.vt_tokens.specs.Lexicon.{Stands}
use Rattle.vt_tokens.specs.Spelling.{Piece, IsCutInto, joined, tokens_after, line_after}
use Rattle.vt_tokens.specs.declared.token.TokenKind.{TokenKind}
use Rattle.vt_tokens.specs.declared.token.Token.{Token}
use Rattle.vt_tokens.specs.declared.piece.Cut.{Cut}

-- a piece stands at the front
pub record StandsFirst (text : List ℕ) (c : Cut) : Type 0 where
  pub some : 0 < c.len
  pub in_range : c.len ≤ length text
  pub stands : Stands c.kind (take c.len text) (drop c.len text)

-- none does
abbrev pub NothingFirst : List ℕ → Type 0
NothingFirst text = (kind : Option TokenKind) (bytes after : List ℕ) → text ≡ bytes ++ after → Stands kind bytes after → ⊥

-- a piece that begins at a place of a line, as a token, where it is one
abbrev pub token_placed : Option TokenKind → ℕ → ℕ → ℕ → List Token
token_placed None start end line = []
token_placed (Some kind) start end line = record { kind = kind; start = start; end = end; line = line } ∷ []

-- the tokens of the pieces before the rest, how many bytes those have, and the line after them
pub record Scanned (text : List ℕ) (tokens : List Token) (rest : List ℕ) (at line : ℕ) : Type 0 where
  pub pieces : List Piece
  pub cut : IsCutInto text pieces rest
  pub are : tokens ≡ tokens_after [] pieces
  pub counted : at ≡ length (joined pieces)
  pub on : line ≡ line_after (joined pieces)
  pub whole : at + length rest ≡ length text
  pub few_lines : line ≤ at + 1
