-- Where the fault of lexemes stands that spell nothing.
use Rattle.std.specs.Prelude.{ℕ, suc, ◌≡◌, ◌≤◌, ◌<◌, ◌+◌, List, length, take}
use Rattle.vt_grammar.specs.declared.lexeme.Lexeme.{Lexeme}
use Rattle.vt_grammar.specs.Grammar.{Grammar, Spells, IsPart}

-- The fault stands at the first lexeme up to which they are no part, and n are left there; or all
-- of them are a part and yet spell nothing, and n is 0.
pub record IsFault {A : Type 0} (g : Grammar A) (ls : List Lexeme) (n : ℕ) : Type 0 where
  -- so many lexemes stand before the fault
  pub at : ℕ
  pub place : at + n ≡ length ls
  pub before : (j : ℕ) → j ≤ at → IsPart g (take j ls)
  pub here : at < length ls → IsPart g (take (suc at) ls) → ⊥
  pub none : (x : A) → Spells g ls x → ⊥
