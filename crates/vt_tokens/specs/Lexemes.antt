-- The lexemes of a text: its tokens, each with its symbol.
use Rattle.std.specs.Prelude.{ℕ, List, [], ◌∷◌, map, find, slice_range, codes, nat_eq, Option, option_map, unwrap_or}
use Rattle.std.specs.Cmp.Lexicographic.{pointwise}
use Rattle.vt_grammar.specs.declared.symbol.Symbol.{Symbol}
use Rattle.vt_grammar.specs.declared.symbol.Symbol.TheVariants as symbol
use Rattle.vt_grammar.specs.declared.lexeme.Lexeme.{Lexeme}
use Rattle.vt_tokens.specs.Quoting.{quoted}
use Rattle.vt_tokens.specs.declared.token.Token.{Token}
use Rattle.vt_tokens.specs.declared.token.TokenKind.{TokenKind}
use Rattle.vt_tokens.specs.declared.token.TokenKind.TheVariants.{Word, Blank, Number, Quoted, Mark}

-- the words that are kept for the language
unfoldable pub keywords : List (List ℕ × Symbol)
keywords =
    (codes "package", symbol.Package) ∷ (codes "import", symbol.Import) ∷
    (codes "pattern", symbol.Pattern) ∷ (codes "private", symbol.Private) ∷
    (codes "or", symbol.Or) ∷ (codes "find", symbol.Find) ∷ (codes "neg", symbol.Neg) ∷
    (codes "check", symbol.Check) ∷ (codes "eval", symbol.Eval) ∷ (codes "sum", symbol.Sum) ∷
    (codes "min", symbol.Min) ∷ (codes "max", symbol.Max) ∷ (codes "avg", symbol.Avg) ∷
    (codes "count", symbol.Count) ∷ (codes "java", symbol.Java) ∷ (codes "true", symbol.True) ∷
    (codes "false", symbol.False) ∷ []

-- the marks
unfoldable pub marks : List (List ℕ × Symbol)
marks =
    (codes "(", symbol.LeftParen) ∷ (codes ")", symbol.RightParen) ∷ (codes "{", symbol.LeftBrace) ∷
    (codes "}", symbol.RightBrace) ∷ (codes "[", symbol.LeftBracket) ∷
    (codes "]", symbol.RightBracket) ∷ (codes ",", symbol.Comma) ∷ (codes ";", symbol.Semicolon) ∷
    (codes ":", symbol.Colon) ∷ (codes "::", symbol.DoubleColon) ∷ (codes ".", symbol.Dot) ∷
    (codes "#", symbol.Hash) ∷ (codes "@", symbol.At) ∷ (codes "=", symbol.Assign) ∷
    (codes "==", symbol.Equal) ∷ (codes "!=", symbol.Differ) ∷ (codes "<", symbol.Less) ∷
    (codes "<=", symbol.AtMost) ∷ (codes ">", symbol.Greater) ∷ (codes ">=", symbol.AtLeast) ∷
    (codes "+", symbol.Plus) ∷ (codes "-", symbol.Minus) ∷ (codes "*", symbol.Times) ∷
    (codes "/", symbol.Divided) ∷ (codes "%", symbol.Remainder) ∷ (codes "!", symbol.Not) ∷
    (codes "&", symbol.Ampersand) ∷ (codes "&&", symbol.And) ∷ (codes "|", symbol.Bar) ∷
    (codes "||", symbol.OrElse) ∷ (codes "?", symbol.Question) ∷ []

-- the symbol that stands for these bytes in a list
abbrev pub named_in : List (List ℕ × Symbol) → List ℕ → Option Symbol
named_in names bytes = option_map (λ e. e.1) (find (λ e. pointwise nat_eq bytes e.0) names)

-- a word that isn't kept is an identifier; each mark is one of the list
abbrev pub symbol_of : TokenKind → List ℕ → Symbol
symbol_of Word bytes = unwrap_or (named_in keywords bytes) symbol.Identifier
symbol_of Blank bytes = symbol.Blank
symbol_of Number bytes = symbol.Number
symbol_of Quoted bytes = symbol.Quoted
symbol_of Mark bytes = unwrap_or (named_in marks bytes) symbol.Question

-- words and numbers keep what they are written as, and a string what it stands for
abbrev pub text_of : TokenKind → List ℕ → List ℕ
text_of Word bytes = bytes
text_of Number bytes = bytes
text_of Quoted bytes = unwrap_or (quoted bytes) []
text_of kind bytes = []

-- a token with its symbol, and the text that it keeps
abbrev pub lexeme_of : List ℕ → Token → Lexeme
lexeme_of text t = record {
  symbol = symbol_of t.kind (slice_range text t.start t.end);
  text = text_of t.kind (slice_range text t.start t.end);
  line = t.line;
}

-- the lexemes of the tokens of a text
abbrev pub lexemes_of : List ℕ → List Token → List Lexeme
lexemes_of text tokens = map (lexeme_of text) tokens
