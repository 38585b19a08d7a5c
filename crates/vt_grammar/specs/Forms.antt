-- Grammars that come in every document, as its rules are written.
use Rattle.std.specs.Prelude.{List, [], ◌∷◌, Option, Some, None}
use Rattle.vt_grammar.specs.Grammar.{Grammar, nothing, seq, alt, star, made}

infixr 6 ◌&◌
-- the first, then the second
abbrev pub ◌&◌ : {A B : Type 0} → Grammar A → Grammar B → Grammar (A × B)
a & b = seq a b

-- the value of the second, behind the first
abbrev pub after : {A B : Type 0} → Grammar A → Grammar B → Grammar B
after a b = made (λ x. x.1) (a & b)

-- the value of the first, before the second
abbrev pub before : {A B : Type 0} → Grammar A → Grammar B → Grammar A
before a b = made (λ x. x.0) (a & b)

-- one, and any number more, each behind a mark
abbrev pub separated : {A B : Type 0} → Grammar A → Grammar B → Grammar (List B)
separated mark a = made (λ x. x.0 ∷ x.1) (a & star (after mark a))

-- a list, or no lexeme for the empty one
abbrev pub some_of : {A : Type 0} → Grammar (List A) → Grammar (List A)
some_of a = alt a (made (λ _. []) nothing)

-- one or none
abbrev pub maybe : {A : Type 0} → Grammar A → Grammar (Option A)
maybe a = alt (made Some a) (made (λ _. None) nothing)

-- what the spelled function gives at a value
abbrev pub applied : {A B : Type 0} → A → Grammar (A → B) → Grammar B
applied x a = made (λ f. f x) a
