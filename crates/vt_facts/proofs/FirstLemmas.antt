-- The first of tests, where more tests follow.
use Rattle.std.proofs.Common.{◌≡◌, List, [], ◌∷◌, ◌++◌, refl, Bool, true, false}
use Rattle.std.specs.Prelude.{Some, None}
use Rattle.vt_facts.specs.Firsts.{first_of}

-- a test that holds is found before those that follow
pub first_of-some : {A : Type 0} (tests more : List (Bool × A)) (why : A) → first_of tests ≡ Some why → first_of (tests ++ more) ≡ Some why
first_of-some [] more why some = cc
first_of-some ((true, x) ∷ tests) more why some = some
first_of-some ((false, x) ∷ tests) more why some = first_of-some tests more why some

-- where none holds, those that follow decide
pub first_of-none : {A : Type 0} (tests more : List (Bool × A)) → first_of tests ≡ None → first_of (tests ++ more) ≡ first_of more
first_of-none [] more none = refl
first_of-none ((true, x) ∷ tests) more none = cc
first_of-none ((false, x) ∷ tests) more none = first_of-none tests more none
