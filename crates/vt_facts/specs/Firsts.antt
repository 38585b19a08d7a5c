-- The first of a list of tests that holds.
use Rattle.std.specs.Prelude.{List, [], ◌∷◌, Bool, true, false, Option, Some, None}

-- the first whose test holds
abbrev pub first_of : {A : Type 0} → List (Bool × A) → Option A
first_of [] = None
first_of ((true, x) ∷ rest) = Some x
first_of ((false, x) ∷ rest) = first_of rest
