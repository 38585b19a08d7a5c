-- Where a search in a list ends.
use Rattle.std.proofs.Common.{◌≡◌, ℕ, suc, ltb, not, ◌+◌, ◌<◌, List, [], ◌∷◌, length, map, get_or, refl, sym, ap, ◌∙◌, cond, Bool, true, false, arith}
use Rattle.std.specs.Prelude.{find, position, slice_get, Option, Some, None, option_map, option_and_then}
use Rattle.std.specs.List.{position_or_len}
use Rattle.std.proofs.lemmas.Bool.Decides.{nat_tests}
use Rattle.std.proofs.lemmas.List.Quantifiers.{position-Some}
use Rattle.std.proofs.lemmas.Option.{slice_get-get_or}

-- what stands at a place that a search gives
pub record IsAt {X : Type 0} (p : X → Bool) (xs : List X) (i : ℕ) : Type 0 where
  pub item : X
  pub there : slice_get xs i ≡ Some item
  pub passes : p item ≡ true
  pub in_range : i < length xs

pub IsAt-position : {X : Type 0} (p : X → Bool) (xs : List X) (i : ℕ) → position p xs ≡ Some i → IsAt p xs i
IsAt-position p [] i e = cc
IsAt-position p (x ∷ xs) i e =
    let found = position-Some p (x ∷ xs) i x e in
    record { item = get_or (x ∷ xs) i x; there = slice_get-get_or (x ∷ xs) i x found.0; passes = found.1; in_range = found.0 }

-- the first, or the place in the rest
pub position-cons : {X : Type 0} (p : X → Bool) (x : X) (xs : List X)
    → position p (x ∷ xs) ≡ cond (p x) (Some 0) (option_map (λ n. n + 1) (position p xs))
position-cons p x xs =
    elim (p x) as (λ b. cond (ltb (cond (not b) (1 + position_or_len p xs) 0) (suc (length xs))) (Some (cond (not b) (1 + position_or_len p xs) 0)) None ≡ cond b (Some 0) (option_map (λ n. n + 1) (position p xs))) [
      | true ↦ grind (arith, nat_tests)
      | false ↦ later (ltb (position_or_len p xs) (length xs)) refl
    ]
  where
    later : (b : Bool) → ltb (position_or_len p xs) (length xs) ≡ b
        → cond (ltb (1 + position_or_len p xs) (suc (length xs))) (Some (1 + position_or_len p xs)) None ≡ option_map (λ n. n + 1) (cond b (Some (position_or_len p xs)) None)
    later true e = grind (arith, nat_tests)
    later false e = grind (arith, nat_tests)

pub position-map : {X Y : Type 0} (f : X → Y) (p : Y → Bool) (xs : List X) → position p (map f xs) ≡ position (λ x. p (f x)) xs
position-map f p [] = refl
position-map f p (x ∷ xs) =
    position-cons p (f x) (map f xs) ∙ ap (λ r. cond (p (f x)) (Some 0) (option_map (λ n. n + 1) r)) (position-map f p xs) ∙ sym (position-cons (λ x. p (f x)) x xs)

-- the same place by another test that agrees
pub position_agree : {X : Type 0} (p q : X → Bool) → ((x : X) → p x ≡ q x) → (xs : List X) → position p xs ≡ position q xs
position_agree p q same xs = λ i. position (λ x. same x i) xs

-- what a search finds stands at the place that it gives
pub find_position : {X : Type 0} (p : X → Bool) (xs : List X) → find p xs ≡ option_and_then (slice_get xs) (position p xs)
find_position p [] = refl
find_position p (x ∷ xs) = by (p x) (position p xs) (find_position p xs) ∙ ap (option_and_then (slice_get (x ∷ xs))) (sym (position-cons p x xs))
  where
    by : (b : Bool) (r : Option ℕ) → find p xs ≡ option_and_then (slice_get xs) r
        → cond b (Some x) (find p xs) ≡ option_and_then (slice_get (x ∷ xs)) (cond b (Some 0) (option_map (λ n. n + 1) r))
    by true r e = refl
    by false None e = e
    by false (Some n) e = let next : suc n ≡ n + 1 = omega arith in e ∙ ap (slice_get (x ∷ xs)) next
