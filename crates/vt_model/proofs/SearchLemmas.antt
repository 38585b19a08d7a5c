-- Places in lists: what a search gives, and where the only item that passes a test stands.
use Rattle.std.proofs.Common.{◌≡◌, ℕ, zero, suc, ◌+◌, List, [], ◌∷◌, ◌++◌, map, length, take, refl, sym, ap, subst, ◌∙◌, cond, arith, Bool, true, false, ◌⊎◌, inl, inr}
use Rattle.std.specs.Prelude.{◌<◌, ◌≤◌, ◌||◌, not, nat_lt, find, position, slice_get, count_by, Some, None}
use Rattle.std.specs.List.{list_any, position_or_len}
use Rattle.std.proofs.lemmas.Bool.{or_parts, lt-ltb}
use Rattle.std.proofs.lemmas.Option.{same_Some, cond_some}
use Rattle.std.proofs.lemmas.List.Quantifiers.{position-Some}
use Rattle.vt_facts.proofs.CountLemmas.{count_by-yes, count_by-no}

-- ---- in lists that are made of others

-- an item of what a list is changed to comes from one at the same place
pub slice_get-from_map : {X Y : Type 0} (f : X → Y) (xs : List X) (i : ℕ) (y : Y) → slice_get (map f xs) i ≡ Some y → (x : X) × (slice_get xs i ≡ Some x) × (f x ≡ y)
slice_get-from_map f [] i y e = cc
slice_get-from_map f (x ∷ xs) zero y e = (x, refl, same_Some (f x) y e)
slice_get-from_map f (x ∷ xs) (suc i) y e = slice_get-from_map f xs i y e

-- an item of two lists is one of the first or one of the second
pub slice_get-append_cases : {X : Type 0} (xs ys : List X) (i : ℕ) (x : X) → slice_get (xs ++ ys) i ≡ Some x → (slice_get xs i ≡ Some x) ⊎ ((j : ℕ) × (slice_get ys j ≡ Some x))
slice_get-append_cases [] ys i x e = inr (i, e)
slice_get-append_cases (z ∷ xs) ys zero x e = inl e
slice_get-append_cases (z ∷ xs) ys (suc i) x e = slice_get-append_cases xs ys i x e

-- below the length there is an item
pub slice_get-below : {X : Type 0} (xs : List X) (i : ℕ) → i < length xs → (x : X) × (slice_get xs i ≡ Some x)
slice_get-below [] i below = absurd (omega (arith, below))
slice_get-below (x ∷ xs) zero below = (x, refl)
slice_get-below (x ∷ xs) (suc i) below = slice_get-below xs i (omega (arith, below))

module _ {X : Type 0} (p : X → Bool) where
  -- ---- searches

  -- how many come before the first that passes
  position-from : (xs : List X) (i : ℕ) → position_or_len p xs ≡ i → i < length xs → position p xs ≡ Some i
  position-from xs i e below = subst (λ j. cond (nat_lt j (length xs)) (Some j) None ≡ Some i) (sym e) (ap (λ b. cond b (Some i) None) (lt-ltb i (length xs) below))

  -- the first item passes
  pub position-here : (x : X) (xs : List X) → p x ≡ true → position p (x ∷ xs) ≡ Some 0
  position-here x xs passes = position-from (x ∷ xs) 0 (ap (λ b. cond (not b) (1 + position_or_len p xs) 0) passes) (omega arith)

  -- it doesn't
  pub position-behind : (x : X) (xs : List X) (i : ℕ) → p x ≡ false → position p xs ≡ Some i → position p (x ∷ xs) ≡ Some (suc i)
  position-behind x xs i fails e =
      let at = cond_some (nat_lt (position_or_len p xs) (length xs)) (position_or_len p xs) i e in
      let below : i < length xs = (position-Some p xs i x e).0 in
      let one_more : 1 + position_or_len p xs ≡ suc i = omega (arith, at.1) in
      position-from (x ∷ xs) (suc i) (ap (λ b. cond (not b) (1 + position_or_len p xs) 0) fails ∙ one_more) (omega (arith, below))

  -- what a search finds stands at the place that it gives
  pub position-find : (xs : List X) (x : X) → find p xs ≡ Some x → (i : ℕ) × (position p xs ≡ Some i) × (slice_get xs i ≡ Some x)
  position-find [] x e = cc
  position-find (y ∷ xs) x e = by (λ later. position-find xs x later) (p y) refl e
    where
      by : (find p xs ≡ Some x → (i : ℕ) × (position p xs ≡ Some i) × (slice_get xs i ≡ Some x))
          → (b : Bool) → p y ≡ b → cond b (Some y) (find p xs) ≡ Some x → (i : ℕ) × (position p (y ∷ xs) ≡ Some i) × (slice_get (y ∷ xs) i ≡ Some x)
      by rest true passes e = (0, position-here y xs passes, e)
      by rest false fails e = let there = rest e in (suc there.0, position-behind y xs there.0 fails there.1, there.2)

  -- an item that passes, where none before it does, is what a search gives
  pub position-first : (xs : List X) (i : ℕ) (x : X) → slice_get xs i ≡ Some x → p x ≡ true → list_any p (take i xs) ≡ false → position p xs ≡ Some i
  position-first [] i x e passes none = cc
  position-first (y ∷ xs) zero x e passes none = position-here y xs (subst (λ z. p z ≡ true) (sym (same_Some y x e)) passes)
  position-first (y ∷ xs) (suc i) x e passes none =
      let parts = or_parts (p y) (list_any p (take i xs)) none in
      position-behind y xs i parts.0 (position-first xs i x e passes parts.1)

  -- ---- tests of all items

  -- no item passes, so this one doesn't
  pub list_any-at : (xs : List X) (i : ℕ) (x : X) → slice_get xs i ≡ Some x → list_any p xs ≡ false → p x ≡ false
  list_any-at [] i x e none = cc
  list_any-at (y ∷ xs) zero x e none = subst (λ z. p z ≡ false) (same_Some y x e) (or_parts (p y) (list_any p xs) none).0
  list_any-at (y ∷ xs) (suc i) x e none = list_any-at xs i x e (or_parts (p y) (list_any p xs) none).1

  -- a test of what the items are changed to is a test of the items
  pub list_any-take_map : {Y : Type 0} (f : Y → X) (n : ℕ) (ys : List Y) → list_any p (take n (map f ys)) ≡ list_any (λ y. p (f y)) (take n ys)
  list_any-take_map f zero ys = refl
  list_any-take_map f (suc n) [] = refl
  list_any-take_map f (suc n) (y ∷ ys) = ap (λ b. p (f y) || b) (list_any-take_map f n ys)

  -- where none of a list and some of the next passes, none of these passes
  pub list_any-take_append : (xs ys : List X) (n : ℕ) → list_any p (take (length xs + n) (xs ++ ys)) ≡ false → list_any p (take n ys) ≡ false
  list_any-take_append [] ys n none = let same : length {A = X} [] + n ≡ n = omega arith in subst (λ m. list_any p (take m ys) ≡ false) same none
  list_any-take_append (x ∷ xs) ys n none =
      let same : length (x ∷ xs) + n ≡ suc (length xs + n) = omega arith in
      let all : list_any p (take (suc (length xs + n)) (x ∷ xs ++ ys)) ≡ false = subst (λ m. list_any p (take m (x ∷ xs ++ ys)) ≡ false) same none in
      list_any-take_append xs ys n (or_parts (p x) (list_any p (take (length xs + n) (xs ++ ys))) all).1

  -- ---- the only one that passes

  -- one that passes counts
  pub count_by-at : (xs : List X) (i : ℕ) (x : X) → slice_get xs i ≡ Some x → p x ≡ true → 1 ≤ count_by p xs
  count_by-at [] i x e passes = cc
  count_by-at (y ∷ xs) zero x e passes =
      let more = count_by-yes p y xs (subst (λ z. p z ≡ true) (sym (same_Some y x e)) passes) in
      omega (arith, more)
  count_by-at (y ∷ xs) (suc i) x e passes = by (count_by-at xs i x e passes) (p y) refl
    where
      by : 1 ≤ count_by p xs → (b : Bool) → p y ≡ b → 1 ≤ count_by p (y ∷ xs)
      by rest true passes_too = let more = count_by-yes p y xs passes_too in omega (arith, more)
      by rest false fails = let same = count_by-no p y xs fails in omega (arith, same, rest)

  -- the only one that passes stands where a search says
  pub position-only : (xs : List X) (i : ℕ) (x : X) → count_by p xs ≤ 1 → slice_get xs i ≡ Some x → p x ≡ true → position p xs ≡ Some i
  position-only [] i x once e passes = cc
  position-only (y ∷ xs) zero x once e passes = position-here y xs (subst (λ z. p z ≡ true) (sym (same_Some y x e)) passes)
  position-only (y ∷ xs) (suc i) x once e passes = by (λ fewer. position-only xs i x fewer e passes) (p y) refl
    where
      by : (count_by p xs ≤ 1 → position p xs ≡ Some i) → (b : Bool) → p y ≡ b → position p (y ∷ xs) ≡ Some (suc i)
      by rest true passes_too =
          let more = count_by-yes p y xs passes_too in
          let other = count_by-at xs i x e passes in
          absurd (omega (arith, once, more, other))
      by rest false fails = let same = count_by-no p y xs fails in position-behind y xs i fails (rest (omega (arith, once, same)))

  -- and is what a search finds
  pub find-only : (xs : List X) (i : ℕ) (x y : X) → count_by p xs ≤ 1 → slice_get xs i ≡ Some x → p x ≡ true → find p xs ≡ Some y → x ≡ y
  find-only xs i x y once e passes found =
      let there = position-find xs y found in
      let same : i ≡ there.0 = same_Some i there.0 (sym (position-only xs i x once e passes) ∙ there.1) in
      same_Some x y (sym e ∙ ap (slice_get xs) same ∙ there.2)
