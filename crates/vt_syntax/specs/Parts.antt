-- What a part of a file and a balanced list are good for.
use Rattle.std.specs.Prelude.{◌≡◌, ◌≤◌, List, [], ◌++◌, length, Some}
use Rattle.vt_grammar.specs.declared.lexeme.Lexeme.{Lexeme}
use Rattle.vt_grammar.specs.Grammar.{Grammar, Spells, still_open}

-- with some lexemes behind them, these spell a value
pub record CanGoOn {A : Type 0} (g : Grammar A) (ls : List Lexeme) : Type 0 where
  pub rest : List Lexeme
  pub value : A
  pub spelled : Spells g (ls ++ rest) value

-- a balanced front, and none is longer
pub record IsLongestBalanced (ls front back : List Lexeme) : Type 0 where
  pub whole : ls ≡ front ++ back
  pub closed : still_open (Some []) front ≡ Some []
  pub longest : (other rest : List Lexeme) → ls ≡ other ++ rest → still_open (Some []) other ≡ Some [] → length other ≤ length front
