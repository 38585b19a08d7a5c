-- Two grammars of one language, as where common fronts are taken once.
use Rattle.std.specs.Prelude.{List}
use Rattle.vt_grammar.specs.declared.lexeme.Lexeme.{Lexeme}
use Rattle.vt_grammar.specs.Grammar.{Grammar, Spells, IsPart}

-- lexemes spell the same values by the one and by the other, and the same lists are parts
pub record SameAs {A : Type 0} (g h : Grammar A) : Type 0 where
  pub to : (ls : List Lexeme) (x : A) → Spells g ls x → Spells h ls x
  pub from : (ls : List Lexeme) (x : A) → Spells h ls x → Spells g ls x
  pub part_to : (ls : List Lexeme) → IsPart g ls → IsPart h ls
  pub part_from : (ls : List Lexeme) → IsPart h ls → IsPart g ls
