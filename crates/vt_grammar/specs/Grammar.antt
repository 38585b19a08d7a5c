-- Grammars: what a list of lexemes spells, and what is a part of such a list.
use Rattle.std.specs.Prelude.{◌≡◌, ◌⊎◌, List, [], ◌∷◌, ◌++◌, Option, Some, None, if◌then◌else◌}
use Rattle.vt_grammar.specs.declared.symbol.Symbol.{Symbol}
use Rattle.vt_grammar.specs.declared.lexeme.Lexeme.{Lexeme}
use Rattle.vt_grammar.specs.Symbols.{same, closes, closer}

-- a grammar whose values are of one type
pub data Grammar : Type 0 → Type 1 where
  -- no lexeme
  nothing : Grammar (Unit {0})
  -- one lexeme of this symbol
  token : Symbol → Grammar Lexeme
  -- the first, then the second
  seq : {A B : Type 0} → Grammar A → Grammar B → Grammar (A × B)
  -- the one or the other
  alt : {A : Type 0} → Grammar A → Grammar A → Grammar A
  -- any number of them in a row
  star : {A : Type 0} → Grammar A → Grammar (List A)
  -- the same lexemes, whose value is made from the value of the given grammar
  made : {A B : Type 0} → (A → B) → Grammar A → Grammar B
  -- any lexemes among which each opened bracket is closed, and no other one
  balanced : Grammar (List Lexeme)

-- what is to be closed once this symbol has closed the innermost bracket, or none where it can't
abbrev pub close_one : List Symbol → Symbol → Option (List Symbol)
close_one [] s = None
close_one (c ∷ stack) s = if same c s then Some stack else None

-- what is to be closed once a bracket with this closing one has opened, or no bracket
abbrev pub open_one : List Symbol → Option Symbol → List Symbol
open_one stack None = stack
open_one stack (Some c) = c ∷ stack

-- what is to be closed after one more symbol, or none where it can't stand
abbrev pub step : List Symbol → Symbol → Option (List Symbol)
step stack s = if closes s then close_one stack s else Some (open_one stack (closer s))

-- the closing brackets that have to come after these lexemes, the next one first; none where one
-- closed another than the innermost
abbrev pub still_open : Option (List Symbol) → List Lexeme → Option (List Symbol)
still_open None ls = None
still_open (Some stack) [] = Some stack
still_open (Some stack) (l ∷ ls) = still_open (step stack l.symbol) ls

-- a list is one of P and then one of Q
pub record Join (P Q : List Lexeme → Type 0) (ls : List Lexeme) : Type 0 where
  pub front : List Lexeme
  pub back : List Lexeme
  pub whole : ls ≡ front ++ back
  pub first : P front
  pub second : Q back

-- the lexemes spell these values, one after the other
abbrev pub SpellsAll : {A : Type 0} → (List Lexeme → A → Type 0) → List Lexeme → List A → Type 0
SpellsAll P ls [] = ls ≡ []
SpellsAll P ls (x ∷ xs) = Join (λ s. P s x) (λ s. SpellsAll P s xs) ls

-- the lexemes spell the value
abbrev pub Spells : {A : Type 0} → Grammar A → List Lexeme → A → Type 0
Spells nothing ls x = ls ≡ []
Spells (token s) ls x = (ls ≡ x ∷ []) × (x.symbol ≡ s)
Spells (seq a b) ls x = Join (λ s. Spells a s x.0) (λ s. Spells b s x.1) ls
Spells (alt a b) ls x = Spells a ls x ⊎ Spells b ls x
Spells (star a) ls xs = SpellsAll (Spells a) ls xs
Spells (made {A = A} f a) ls x = (y : A) × Spells a ls y × (f y ≡ x)
Spells balanced ls x = (x ≡ ls) × (still_open (Some []) ls ≡ Some [])

-- the lexemes are a part of what spells a value: a spelling of its first members, possibly of none,
-- and then a part of the next
abbrev pub IsPart : {A : Type 0} → Grammar A → List Lexeme → Type 0
IsPart nothing ls = ls ≡ []
IsPart (token s) ls = (ls ≡ []) ⊎ ((l : Lexeme) × (ls ≡ l ∷ []) × (l.symbol ≡ s))
IsPart (seq {A = A} a b) ls = IsPart a ls ⊎ ((x : A) × Join (λ s. Spells a s x) (IsPart b) ls)
IsPart (alt a b) ls = IsPart a ls ⊎ IsPart b ls
IsPart (star {A = A} a) ls = (ls ≡ []) ⊎ ((xs : List A) × Join (λ s. SpellsAll (Spells a) s xs) (IsPart a) ls)
IsPart (made f a) ls = IsPart a ls
IsPart balanced ls = (stack : List Symbol) × (still_open (Some []) ls ≡ Some stack)
