-- Names, and lists in which none stands twice.
use Rattle.std.proofs.Common.{◌≡◌, ℕ, zero, suc, List, [], ◌∷◌, refl, sym, ap, subst, ◌∙◌, true, false, not}
use Rattle.std.specs.Prelude.{nat_eq, slice_get, Some}
use Rattle.std.specs.List.{list_any}
use Rattle.std.specs.Cmp.Lexicographic.{nat_list_eq_equiv}
use Rattle.std.proofs.lemmas.Bool.{and_parts, or_parts, not-true}
use Rattle.std.proofs.lemmas.Option.{same_Some}
use Rattle.vt_facts.specs.Names.{is_name, is_distinct}
use Rattle.vt_facts.proofs.NumberLemmas.{equal_numbers}

-- names that pass the test have the same bytes
pub same_bytes : (a b : List ℕ) → is_name a b ≡ true → a ≡ b
same_bytes [] [] h = refl
same_bytes [] (y ∷ ys) h = cc
same_bytes (x ∷ xs) [] h = cc
same_bytes (x ∷ xs) (y ∷ ys) h =
    let parts = and_parts (nat_eq x y) (is_name xs ys) h in
    cc (equal_numbers x y parts.0, same_bytes xs ys parts.1)

-- a name is itself
pub is_name-itself : (a b : List ℕ) → a ≡ b → is_name a b ≡ true
is_name-itself a b e = subst (λ n. is_name a n ≡ true) e (nat_list_eq_equiv.refl a)

-- where no name passes the test, none is the one that is asked for
no_place : (names : List (List ℕ)) (name : List ℕ) (i : ℕ) → list_any (λ n. is_name n name) names ≡ false → slice_get names i ≡ Some name → ⊥
no_place [] name i none at = cc
no_place (n ∷ names) name zero none at =
    let here : is_name n name ≡ true = is_name-itself n name (same_Some n name at) in
    let other : is_name n name ≡ false = (or_parts (is_name n name) (list_any (λ n. is_name n name) names) none).0 in
    cc
no_place (n ∷ names) name (suc i) none at = no_place names name i (or_parts (is_name n name) (list_any (λ n. is_name n name) names) none).1 at

-- where no name stands twice, each stands at one place
pub one_place : (names : List (List ℕ)) (name : List ℕ) (i j : ℕ) → is_distinct names ≡ true → slice_get names i ≡ Some name → slice_get names j ≡ Some name → i ≡ j
one_place [] name i j once at too = cc
one_place (n ∷ names) name zero zero once at too = refl
one_place (n ∷ names) name zero (suc j) once at too =
    let parts = and_parts (not (list_any (λ m. is_name m n) names)) (is_distinct names) once in
    absurd (no_place names n j (not-true (list_any (λ m. is_name m n) names) parts.0) (too ∙ ap Some (sym (same_Some n name at))))
one_place (n ∷ names) name (suc i) zero once at too =
    let parts = and_parts (not (list_any (λ m. is_name m n) names)) (is_distinct names) once in
    absurd (no_place names n i (not-true (list_any (λ m. is_name m n) names) parts.0) (at ∙ ap Some (sym (same_Some n name too))))
one_place (n ∷ names) name (suc i) (suc j) once at too =
    let parts = and_parts (not (list_any (λ m. is_name m n) names)) (is_distinct names) once in
    ap suc (one_place names name i j parts.1 at too)
