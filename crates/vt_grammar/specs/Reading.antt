-- How lexemes are read from the left, and what the next one decides.
use Rattle.std.specs.Prelude.{ℕ, zero, suc, Bool, true, false, not, ◌&&◌, ◌||◌, List, [], ◌∷◌, length, Option, Some, None, Result, Ok, Err, if◌then◌else◌}
use Rattle.std.specs.List.{list_all}
use Rattle.vt_grammar.specs.declared.symbol.Symbol.{Symbol}
use Rattle.vt_grammar.specs.declared.lexeme.Lexeme.{Lexeme}
use Rattle.vt_grammar.specs.Symbols.{same, closes, all_symbols}
use Rattle.vt_grammar.specs.Grammar.{Grammar, nothing, token, seq, alt, star, made, balanced, step}

-- a value and the lexemes after it, or how many lexemes are left at the fault
abbrev pub Read : Type 0 → Type 0
Read A = Result (A × List Lexeme) ℕ

infixl 10 ◌>>=◌
-- the one reading, and then another after it
abbrev pub ◌>>=◌ : {A B : Type 0} → Read A → (A × List Lexeme → Read B) → Read B
(Ok x) >>= f = f x
(Err e) >>= f = Err e

-- whether no lexeme spells a value of it
abbrev pub is_empty : {A : Type 0} → Grammar A → Bool
is_empty nothing = true
is_empty (token s) = false
is_empty (seq a b) = is_empty a && is_empty b
is_empty (alt a b) = is_empty a || is_empty b
is_empty (star a) = true
is_empty (made f a) = is_empty a
is_empty balanced = true

-- x, or y too where it counts
abbrev pub also : Bool → Bool → Bool → Bool
also true x y = x || y
also false x y = x

-- the symbols that can begin it
abbrev pub first : {A : Type 0} → Grammar A → Symbol → Bool
first nothing s = false
first (token j) s = same j s
first (seq a b) s = also (is_empty a) (first a s) (first b s)
first (alt a b) s = first a s || first b s
first (star a) s = first a s
first (made f a) s = first a s
first balanced s = not (closes s)

-- the symbols that can go on where it could end
abbrev pub more : {A : Type 0} → Grammar A → Symbol → Bool
more nothing s = false
more (token j) s = false
more (seq a b) s = more b s || (is_empty b && more a s)
more (alt a b) s = (more a s || more b s) || (is_empty b && first a s)
more (star a) s = more a s || first a s
more (made f a) s = more a s
more balanced s = not (closes s)

-- no symbol is in both sets
abbrev pub apart : (Symbol → Bool) → (Symbol → Bool) → Bool
apart f g = list_all (λ s. not (f s && g s)) all_symbols

-- the next lexeme decides how to go on, in each part of it
abbrev pub is_decided : {A : Type 0} → Grammar A → Bool
is_decided nothing = true
is_decided (token s) = true
is_decided (seq a b) = (is_decided a && is_decided b) && apart (more a) (first b)
is_decided (alt a b) = (is_decided a && is_decided b) && (not (is_empty a) && apart (first a) (first b))
is_decided (star a) = is_decided a && (not (is_empty a) && apart (more a) (first a))
is_decided (made f a) = is_decided a
is_decided balanced = true

-- whether the next lexeme is of a set
abbrev pub starts : (Symbol → Bool) → List Lexeme → Bool
starts f [] = false
starts f (l ∷ ls) = f l.symbol

-- the next lexeme, where it is of this symbol
abbrev pub one_of : Symbol → List Lexeme → Read Lexeme
one_of s [] = Err 0
one_of s (l ∷ ls) = if same s l.symbol then Ok (l, ls) else Err (suc (length ls))

-- as many as begin one after the other, up to a number
abbrev pub many : {A : Type 0} → (List Lexeme → Bool) → (List Lexeme → Read A) → ℕ → List Lexeme → Read (List A)
many test rd zero ls = Ok ([], ls)
many test rd (suc n) ls = if test ls then (rd ls >>= λ x. many test rd n x.1 >>= λ y. Ok (x.0 ∷ y.0, y.1)) else Ok ([], ls)

-- where nothing more can stand: the end of the list if all is closed, else a fault
abbrev pub scan_end : List Symbol → List Lexeme → Read (List Lexeme)
scan_end [] ls = Ok ([], ls)
scan_end (c ∷ stack) ls = Err (length ls)

-- one lexeme taken, where it can stand
abbrev pub scan_on : (List Symbol → Read (List Lexeme)) → List Symbol → Lexeme → List Lexeme → Option (List Symbol) → Read (List Lexeme)
scan_on go stack l ls None = scan_end stack (l ∷ ls)
scan_on go stack l ls (Some next) = go next >>= λ x. Ok (l ∷ x.0, x.1)

-- the lexemes up to a closing bracket of none that was opened among them, or up to the end
abbrev pub scan : List Symbol → List Lexeme → Read (List Lexeme)
scan stack [] = scan_end stack []
scan stack (l ∷ ls) = scan_on (λ s. scan s ls) stack l ls (step stack l.symbol)

-- the value at the front of the lexemes, and those after it
unfoldable pub read : {A : Type 0} → Grammar A → List Lexeme → Read A
read nothing ls = Ok (tt, ls)
read (token s) ls = one_of s ls
read (seq a b) ls = read a ls >>= λ x. read b x.1 >>= λ y. Ok ((x.0, y.0), y.1)
read (alt a b) ls = if starts (first a) ls then read a ls else read b ls
read (star a) ls = many (starts (first a)) (read a) (length ls) ls
read (made f a) ls = read a ls >>= λ x. Ok (f x.0, x.1)
read balanced ls = scan [] ls
