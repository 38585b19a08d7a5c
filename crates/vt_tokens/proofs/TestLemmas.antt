-- What tests that hold say of what they test.
use Rattle.std.proofs.Common.{◌≡◌, ℕ, ◌≤◌, ◌&&◌, ◌||◌, nat_eq, nat_le, Bool, true, false, List, [], ◌∷◌, refl, arith}
use Rattle.std.specs.List.{list_all, list_any}
use Rattle.std.specs.Cmp.Lexicographic.{pointwise}
use Rattle.std.proofs.lemmas.Bool.Decides.{nat_tests}
use Rattle.vt_facts.proofs.NumberLemmas.{equal_numbers}

pub both_true : (a b : Bool) → (a && b) ≡ true → (a ≡ true) × (b ≡ true)
both_true true b h = (refl, h)
both_true false b h = cc

pub le_is : (a b : ℕ) → nat_le a b ≡ true → a ≤ b
le_is a b h = grind (arith, nat_tests)

pub found_item : {X : Type 0} (P test : X → Bool) (xs : List X) → list_all P xs ≡ true → list_any test xs ≡ true → (x : X) × (P x ≡ true) × (test x ≡ true)
found_item P test [] h k = absurd (cc)
found_item P test (x ∷ xs) h k =
    let parts = both_true (P x) (list_all P xs) h in
    elim (test x) as (λ t. test x ≡ t → (t || list_any test xs) ≡ true → (x : _) × (P x ≡ true) × (test x ≡ true)) [
      | true ↦ λ e _. (x, parts.0, e)
      | false ↦ λ _ more. found_item P test xs parts.1 more
    ] refl k

pub same_text : (xs ys : List ℕ) → pointwise nat_eq xs ys ≡ true → xs ≡ ys
same_text [] [] h = refl
same_text [] (y ∷ ys) h = absurd (cc)
same_text (x ∷ xs) [] h = absurd (cc)
same_text (x ∷ xs) (y ∷ ys) h =
    let parts = both_true (nat_eq x y) (pointwise nat_eq xs ys) h in
    cc (equal_numbers x y parts.0, same_text xs ys parts.1)
