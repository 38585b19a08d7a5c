-- Words, numbers and strings among the lexemes, as the rules of a grammar name them.
use Rattle.std.specs.Prelude.{ℕ, ℤ, pos, nat_le, if◌then◌else◌, List}
use Rattle.vt_grammar.specs.declared.symbol.Symbol.TheVariants as symbol
use Rattle.vt_grammar.specs.declared.lexeme.Lexeme.{Lexeme}
use Rattle.vt_grammar.specs.Grammar.{Grammar, token, alt, made}
use Rattle.vt_tokens.specs.Lexicon.{number_of}

-- ID
abbrev pub identifier : Grammar (List ℕ)
identifier = made (λ l. l.text) (token symbol.Identifier)

-- an ID, or a keyword: so behind a dot or a `::`
abbrev pub any_word : Grammar Lexeme
any_word =
    (alt (token symbol.Identifier)
    (alt (token symbol.Package)
    (alt (token symbol.Import)
    (alt (token symbol.Pattern)
    (alt (token symbol.Private)
    (alt (token symbol.Or)
    (alt (token symbol.Find)
    (alt (token symbol.Neg)
    (alt (token symbol.Check)
    (alt (token symbol.Eval)
    (alt (token symbol.Sum)
    (alt (token symbol.Min)
    (alt (token symbol.Max)
    (alt (token symbol.Avg)
    (alt (token symbol.Count)
    (alt (token symbol.Java)
    (alt (token symbol.True)
    (token symbol.False))))))))))))))))))

-- the name of a feature, or of a literal
abbrev pub feature_name : Grammar (List ℕ)
feature_name = made (λ l. l.text) any_word

-- a number, or the greatest one where it is more
unfoldable pub limited : ℕ → ℕ
limited n = if nat_le n 9223372036854775807 then n else 9223372036854775807

-- the number that digits write; a token never writes more than the greatest one
abbrev pub int_of : List ℕ → ℕ
int_of digits = limited (number_of digits)

-- NUMBER
abbrev pub number : Grammar ℤ
number = made (λ l. pos (int_of l.text)) (token symbol.Number)

-- STRING
abbrev pub string : Grammar (List ℕ)
string = made (λ l. l.text) (token symbol.Quoted)
