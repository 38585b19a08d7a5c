-- Lists: how many of them pass a test, what a filter keeps, and what an insertion in order adds.
use Rattle.std.proofs.Common.{◌≡◌, ◌+◌, List, [], ◌∷◌, ◌++◌, map, refl, sym, ap, ◌∙◌, cond, arith, Bool, true, false}
use Rattle.std.specs.Prelude.{◌≤◌, ◌||◌, not, All, count_by, filter, find, is_some, Some}
use Rattle.std.specs.List.{list_any}
use Rattle.std.specs.BTreeSet.{insert_key}
use Rattle.std.specs.Ordering.{match_ordering}
use Rattle.std.specs.declared.cmp.Ordering.{Ordering}
use Rattle.std.specs.declared.cmp.Ordering.TheVariants.{Less, Equal, Greater}
use Rattle.std.proofs.lemmas.Bool.{or_parts, both_ways, true≢false, false_from_ne_true}
use Rattle.std.proofs.lemmas.List.Elements.{All-head, All-tail, All-filter, filter_passes}
use Rattle.std.proofs.lemmas.List.Filters.{sum_by-filter_both}
use Rattle.std.proofs.lemmas.List.Sums.{sum_by-cons, sum_by-append}

module _ {X : Type 0} (p : X → Bool) where
  -- ---- count_by

  -- the first element counts if it passes
  pub count_by-cons : (x : X) (xs : List X) → count_by p (x ∷ xs) ≡ cond (p x) 1 0 + count_by p xs
  count_by-cons x xs = sum_by-cons (λ x. cond (p x) 1 0) x xs

  -- it passes
  pub count_by-yes : (x : X) (xs : List X) → p x ≡ true → count_by p (x ∷ xs) ≡ 1 + count_by p xs
  count_by-yes x xs e = count_by-cons x xs ∙ ap (λ b. cond b 1 0 + count_by p xs) e

  -- it does not pass
  pub count_by-no : (x : X) (xs : List X) → p x ≡ false → count_by p (x ∷ xs) ≡ count_by p xs
  count_by-no x xs e = let is : count_by p (x ∷ xs) ≡ 0 + count_by p xs = count_by-cons x xs ∙ ap (λ b. cond b 1 0 + count_by p xs) e in omega arith

  -- the counts of two lists add up
  pub count_by-append : (xs ys : List X) → count_by p (xs ++ ys) ≡ count_by p xs + count_by p ys
  count_by-append xs ys = sum_by-append (λ x. cond (p x) 1 0) xs ys

  -- none passes, so the count is zero
  pub count_by-none : (xs : List X) → All (λ x. p x ≡ false) xs → count_by p xs ≡ 0
  count_by-none [] none = refl
  count_by-none (x ∷ xs) none = count_by-no x xs (All-head (λ x. p x ≡ false) x xs none) ∙ count_by-none xs (All-tail (λ x. p x ≡ false) x xs none)

  -- the same, where the test for one that passes fails
  pub count_by-list_any : (xs : List X) → list_any p xs ≡ false → count_by p xs ≡ 0
  count_by-list_any [] none = refl
  count_by-list_any (x ∷ xs) none =
      let parts = or_parts (p x) (list_any p xs) none in
      count_by-no x xs parts.0 ∙ count_by-list_any xs parts.1

  -- and back
  pub list_any-count_by : (xs : List X) → count_by p xs ≡ 0 → list_any p xs ≡ false
  list_any-count_by [] none = refl
  list_any-count_by (x ∷ xs) none =
      elim (p x) as (λ b. cond b 1 0 + count_by p xs ≡ 0 → (b || list_any p xs) ≡ false) [
        | true ↦ λ e. absurd (omega arith)
        | false ↦ λ e. list_any-count_by xs (omega arith)
      ] (sym (count_by-cons x xs) ∙ none)

  -- the same, where a search finds nothing
  pub count_by-find : (xs : List X) → is_some (find p xs) ≡ false → count_by p xs ≡ 0
  count_by-find [] none = refl
  count_by-find (x ∷ xs) none =
      elim (p x) as (λ b. p x ≡ b → is_some (cond b (Some x) (find p xs)) ≡ false → count_by p (x ∷ xs) ≡ 0) [
        | true ↦ λ e found. absurd (true≢false found)
        | false ↦ λ e found. count_by-no x xs e ∙ count_by-find xs found
      ] refl none

  -- each counts as what it is mapped to
  pub count_by-map : {Y : Type 0} (f : Y → X) (ys : List Y) → count_by p (map f ys) ≡ count_by (λ y. p (f y)) ys
  count_by-map f [] = refl
  count_by-map f (y ∷ ys) = count_by-cons (f y) (map f ys) ∙ ap (λ n. cond (p (f y)) 1 0 + n) (count_by-map f ys) ∙ sym (sum_by-cons (λ y. cond (p (f y)) 1 0) y ys)

  -- ---- filter

  -- what a filter keeps passes
  pub All-filter_passes : (P : X → Type 0) (xs : List X) → All P xs → All (λ x. P x × (p x ≡ true)) (filter p xs)
  All-filter_passes P xs all = λ k d within. (All-filter p P xs all k d within, filter_passes p xs k d within)

  -- a filter that keeps what passes keeps their count
  pub count_by-filter : (q : X → Bool) → ((x : X) → p x ≡ true → q x ≡ true) → (xs : List X) → count_by p (filter q xs) ≡ count_by p xs
  count_by-filter q keeps [] = refl
  count_by-filter q keeps (x ∷ xs) =
      elim (q x) as (λ b. q x ≡ b → count_by p (cond b (x ∷ filter q xs) (filter q xs)) ≡ count_by p (x ∷ xs)) [
        | true ↦ λ e. count_by-cons x (filter q xs) ∙ ap (λ n. cond (p x) 1 0 + n) (count_by-filter q keeps xs) ∙ sym (count_by-cons x xs)
        | false ↦ λ e. count_by-filter q keeps xs ∙ sym (count_by-no x xs (false_from_ne_true (p x) (λ t. both_ways (q x) e (keeps x t))))
      ] refl

  -- what is kept and what is left out are all
  pub count_by-filter_both : (q : X → Bool) (xs : List X) → count_by p (filter (λ x. not (q x)) xs) + count_by p (filter q xs) ≡ count_by p xs
  count_by-filter_both q xs = let both = sum_by-filter_both q (λ x. not (q x)) (λ x. refl) (λ x. cond (p x) 1 0) xs in omega (arith, both)

  -- ---- insert_key

  -- at most one more
  pub count_by-insert_key-le : (R : X → X → Ordering) (xs : List X) (y : X) → count_by p (insert_key R xs y) ≤ cond (p y) 1 0 + count_by p xs
  count_by-insert_key-le R [] y = let one = count_by-cons y [] in omega (arith, one)
  count_by-insert_key-le R (x ∷ xs) y =
      let all = count_by-cons x xs in
      elim (R y x) as (λ r. count_by p (match_ordering r (y ∷ x ∷ xs) (x ∷ xs) (x ∷ insert_key R xs y)) ≤ cond (p y) 1 0 + count_by p (x ∷ xs)) [
        | Less ↦ let one = count_by-cons y (x ∷ xs) in omega (arith, one)
        | Equal ↦ omega arith
        | Greater ↦ let one = count_by-cons x (insert_key R xs y) in let rest = count_by-insert_key-le R xs y in omega (arith, one, rest, all)
      ]

  -- one more, where none equals it
  pub count_by-insert_key : (R : X → X → Ordering) (xs : List X) (y : X) → All (λ x. R y x ≡ Equal → ⊥) xs
      → count_by p (insert_key R xs y) ≡ cond (p y) 1 0 + count_by p xs
  count_by-insert_key R [] y other = count_by-cons y []
  count_by-insert_key R (x ∷ xs) y other =
      let all = count_by-cons x xs in
      elim (R y x) as (λ r. R y x ≡ r → count_by p (match_ordering r (y ∷ x ∷ xs) (x ∷ xs) (x ∷ insert_key R xs y)) ≡ cond (p y) 1 0 + count_by p (x ∷ xs)) [
        | Less ↦ λ e. count_by-cons y (x ∷ xs)
        | Equal ↦ λ e. absurd (All-head (λ x. R y x ≡ Equal → ⊥) x xs other e)
        | Greater ↦ λ e.
            let one = count_by-cons x (insert_key R xs y) in
            let rest = count_by-insert_key R xs y (All-tail (λ x. R y x ≡ Equal → ⊥) x xs other) in
            omega (arith, one, rest, all)
      ] refl
