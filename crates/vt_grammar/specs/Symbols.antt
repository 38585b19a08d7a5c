-- The symbols, and which of them are brackets.
use Rattle.std.specs.Prelude.{Bool, true, false, List, [], ◌∷◌, Option, Some, None}
use denote.Enum.Bare.{sameb}
use Rattle.vt_grammar.specs.contracts.symbol.Symbol.{the_type}
use Rattle.vt_grammar.specs.declared.symbol.Symbol.{Symbol}
use Rattle.vt_grammar.specs.declared.symbol.Symbol.TheVariants as symbol

-- whether two symbols are one, as `==` has it
abbrev pub same : Symbol → Symbol → Bool
same = sameb the_type

-- the closing bracket of an opening one
abbrev pub closer : Symbol → Option Symbol
closer symbol.LeftParen = Some symbol.RightParen
closer symbol.LeftBrace = Some symbol.RightBrace
closer symbol.LeftBracket = Some symbol.RightBracket
closer _ = None

-- whether it is a closing bracket
abbrev pub closes : Symbol → Bool
closes symbol.RightParen = true
closes symbol.RightBrace = true
closes symbol.RightBracket = true
closes _ = false

-- each symbol
abbrev pub all_symbols : List Symbol
all_symbols =
    symbol.Identifier ∷ symbol.Blank ∷ symbol.Number ∷ symbol.Quoted ∷ symbol.Package ∷ symbol.Import ∷
    symbol.Pattern ∷ symbol.Private ∷ symbol.Or ∷ symbol.Find ∷ symbol.Neg ∷ symbol.Check ∷
    symbol.Eval ∷ symbol.Sum ∷ symbol.Min ∷ symbol.Max ∷ symbol.Avg ∷ symbol.Count ∷
    symbol.Java ∷ symbol.True ∷ symbol.False ∷ symbol.LeftParen ∷ symbol.RightParen ∷ symbol.LeftBrace ∷
    symbol.RightBrace ∷ symbol.LeftBracket ∷ symbol.RightBracket ∷ symbol.Comma ∷ symbol.Semicolon ∷ symbol.Colon ∷
    symbol.DoubleColon ∷ symbol.Dot ∷ symbol.Hash ∷ symbol.At ∷ symbol.Assign ∷ symbol.Equal ∷
    symbol.Differ ∷ symbol.Less ∷ symbol.AtMost ∷ symbol.Greater ∷ symbol.AtLeast ∷ symbol.Plus ∷
    symbol.Minus ∷ symbol.Times ∷ symbol.Divided ∷ symbol.Remainder ∷ symbol.Not ∷ symbol.Ampersand ∷
    symbol.And ∷ symbol.Bar ∷ symbol.OrElse ∷ symbol.Question ∷ []
