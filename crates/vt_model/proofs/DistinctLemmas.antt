-- Lists in which no name stands twice.
use Rattle.std.proofs.Common.{◌≡◌, ℕ, ◌+◌, List, [], ◌∷◌, ◌++◌, length, get_or, take, drop, refl, sym, ap, ◌∙◌, cond, Bool, true, false, ⊎_elim}
use Rattle.std.specs.Prelude.{◌<◌, ◌&&◌, ◌||◌, not, position, Option, Some, None, is_some, option_map}
use Rattle.std.specs.List.{list_any}
use Rattle.std.specs.Cmp.Lexicographic.{nat_list_eq_equiv}
use Rattle.std.proofs.lemmas.Bool.{and_cases, and_left, and_right, or_left, not-false, not_from_true}
use Rattle.std.proofs.lemmas.List.{take_more, take-append-drop}
use Rattle.std.proofs.lemmas.List.Folds.{list_any-append}
use Rattle.vt_facts.specs.Names.{is_name, is_distinct}
use Rattle.vt_model.specs.Places.{place_in, FindsIn}
use Rattle.vt_model.specs.declared.places.Places.{Places}
use Rattle.vt_facts.proofs.PositionLemmas.{position-cons}

-- a search finds where something is to be found
pub is_some-position : {X : Type 0} (p : X → Bool) (xs : List X) → is_some (position p xs) ≡ list_any p xs
is_some-position p [] = refl
is_some-position p (x ∷ xs) = ap is_some (position-cons p x xs) ∙ by (p x) (position p xs) (is_some-position p xs)
  where
    by : (b : Bool) (r : Option ℕ) → is_some r ≡ list_any p xs → is_some (cond b (Some 0) (option_map (λ n. n + 1) r)) ≡ (b || list_any p xs)
    by true r e = refl
    by false None e = e
    by false (Some n) e = e

-- one more name
pub is_distinct-push : (names : List (List ℕ)) (name : List ℕ)
    → is_distinct (names ++ name ∷ []) ≡ (is_distinct names && not (list_any (λ n. is_name n name) names))
is_distinct-push [] name = refl
is_distinct-push (n ∷ names) name =
    (λ i. not (any i) && is_distinct-push names name i)
    ∙ by (list_any (λ m. is_name m n) names) (is_name n name) (is_distinct names) (list_any (λ m. is_name m name) names)
  where
    any : list_any (λ m. is_name m n) (names ++ name ∷ []) ≡ (list_any (λ m. is_name m n) names || (is_name n name || false))
    any = list_any-append (λ m. is_name m n) names (name ∷ []) ∙ ap (λ b. list_any (λ m. is_name m n) names || (b || false)) (nat_list_eq_equiv.symm name n)

    by : (a b c d : Bool) → (not (a || (b || false)) && (c && not d)) ≡ ((not a && c) && not (b || d))
    by true b c d = refl
    by false true c d = later c
      where
        later : (c : Bool) → false ≡ (c && false)
        later true = refl
        later false = refl
    by false false c d = refl

-- a name that stands twice stands twice in what is longer
pub is_distinct-front : (xs ys : List (List ℕ)) → is_distinct xs ≡ false → is_distinct (xs ++ ys) ≡ false
is_distinct-front [] ys e = cc
is_distinct-front (x ∷ xs) ys e =
    let any : List (List ℕ) → Bool = λ l. list_any (λ n. is_name n x) l in
    ⊎_elim
    (λ again. and_left (not (any (xs ++ ys))) (is_distinct (xs ++ ys))
    (not_from_true (any (xs ++ ys)) (list_any-append (λ n. is_name n x) xs ys ∙ or_left (any xs) (any ys) (not-false (any xs) again))))
    (λ later. and_right (not (any (xs ++ ys))) (is_distinct (xs ++ ys)) (is_distinct-front xs ys later))
    (and_cases (not (any xs)) (is_distinct xs) e)

module _ (names : List (List ℕ)) (i : ℕ) (name : List ℕ) (seen : Places) (below : i < length names) (at : name ≡ get_or names i name) (finds : FindsIn (take i names) seen) where
  seen_before : list_any (λ n. is_name n name) (take i names) ≡ is_some (place_in seen name)
  seen_before = sym (is_some-position (λ n. is_name n name) (take i names)) ∙ ap is_some (sym (finds name))

  step : is_distinct (take (i + 1) names) ≡ (is_distinct (take i names) && not (is_some (place_in seen name)))
  step =
      ap is_distinct (take_more names i name below)
      ∙ ap (λ n. is_distinct (take i names ++ n ∷ [])) (sym at)
      ∙ is_distinct-push (take i names) name
      ∙ ap (λ b. is_distinct (take i names) && not b) seen_before

  pub distinct_more : is_distinct (take i names) ≡ true → is_some (place_in seen name) ≡ false → is_distinct (take (i + 1) names) ≡ true
  distinct_more distinct fresh = step ∙ (λ j. distinct j && not (fresh j))

  pub distinct_stops : is_some (place_in seen name) ≡ true → is_distinct names ≡ false
  distinct_stops there =
      ap is_distinct (sym (take-append-drop (i + 1) names))
      ∙ is_distinct-front (take (i + 1) names) (drop (i + 1) names) (step ∙ ap (λ b. is_distinct (take i names) && not b) there ∙ last (is_distinct (take i names)))
    where
      last : (b : Bool) → (b && false) ≡ false
      last true = refl
      last false = refl
