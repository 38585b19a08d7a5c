-- A small grammar, by which the tests read: a pattern's name and its parameters.
use Rattle.std.specs.Prelude.{ℕ, List}
use Rattle.vt_grammar.specs.declared.symbol.Symbol.TheVariants as symbol
use Rattle.vt_grammar.specs.Grammar.{Grammar, token, made}
use Rattle.vt_grammar.specs.Forms.{◌&◌, after, separated}

-- the text of a name
abbrev pub name : Grammar (List ℕ)
name = made (λ l. l.text) (token symbol.Identifier)

-- a name behind a comma
abbrev pub further : Grammar (List ℕ)
further = after (token symbol.Comma) name

-- names with a comma between each two
abbrev pub names : Grammar (List (List ℕ))
names = separated (token symbol.Comma) name

-- heading = "pattern" name "(" names ")" ";"
abbrev pub heading : Grammar (List ℕ × List (List ℕ))
heading = made (λ x. (x.1.0, x.1.1.1.0)) (token symbol.Pattern & name & token symbol.LeftParen & names & token symbol.RightParen & token symbol.Semicolon)
