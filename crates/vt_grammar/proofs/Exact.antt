-- What a reading has to do with the grammar.
use Rattle.std.specs.Prelude.{◌≡◌, ◌≤◌, false, List, ◌++◌, length, Ok, Err}
use Rattle.vt_grammar.specs.declared.lexeme.Lexeme.{Lexeme}
use Rattle.vt_grammar.specs.Grammar.{Grammar, Spells, IsPart}
use Rattle.vt_grammar.specs.Reading.{Read, more, starts}

-- a value is spelled by what was seen, and a fault stands behind it
abbrev pub Outcome : {A : Type 0} → Grammar A → List Lexeme → List Lexeme → Read A → Type 0
Outcome g seen left (Ok x) = Spells g seen x.0 × (x.1 ≡ left)
Outcome g seen left (Err n) = n ≡ length left

-- What was seen is a part, no longer front is one, and what is spelled up to where it can end is what was read.
pub record Exact {A : Type 0} (g : Grammar A) (ls : List Lexeme) (r : Read A) : Type 0 where
  pub seen : List Lexeme
  pub left : List Lexeme
  pub whole : ls ≡ seen ++ left
  pub part : IsPart g seen
  pub outcome : Outcome g seen left r
  pub farthest : (p q : List Lexeme) → IsPart g p → ls ≡ p ++ q → length p ≤ length seen
  pub only : (s q : List Lexeme) (x : A) → Spells g s x → ls ≡ s ++ q → starts (more g) q ≡ false → r ≡ Ok (x, q)
