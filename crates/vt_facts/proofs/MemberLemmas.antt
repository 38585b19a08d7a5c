-- What a list contains: of a list and a longer one, after a filter, after one item was put in.
use Rattle.std.proofs.Common.{◌≡◌, ℕ, suc, List, [], ◌∷◌, map, refl, ap, subst, ◌∙◌, arith, cond, Bool, true, false, ◌⊎◌, inl, inr}
use Rattle.std.specs.Prelude.{◌<◌, ◌≤◌, ◌==◌, not, length, find, filter, All, Contains, Some}
use Rattle.std.specs.BTreeSet.{insert_key}
use Rattle.std.specs.Ordering.{match_ordering}
use Rattle.std.specs.declared.cmp.Ordering.{Ordering}
use Rattle.std.specs.declared.cmp.Ordering.TheVariants.{Less, Equal, Greater}
use Rattle.std.proofs.lemmas.List.Elements.{All-contains, All-contains_itself, All-filter, All-weaker, Contains-append_left, Contains-append_right, Contains-append_cases, Contains-push, Contains-push_cases, All-head, All-tail, filter_passes}
use Rattle.std.proofs.lemmas.Bool.{ne_eqb, eq-eqb, not_from_false, not_from_true}
use Rattle.std.proofs.lemmas.List.Filters.{length-filter_both}
use Rattle.std.proofs.lemmas.Map.Views.{All-insert_key}

-- ---- in a longer list

-- an item at the head
pub Contains-head : {X : Type 0} (x : X) (xs : List X) → Contains (x ∷ xs) x
Contains-head x xs = Contains-append_left (x ∷ []) xs x (Contains-push [] x)

-- an item behind it
pub Contains-behind : {X : Type 0} (y x : X) (xs : List X) → Contains xs x → Contains (y ∷ xs) x
Contains-behind y x xs there = Contains-append_right (y ∷ []) xs x there

-- nothing stands in the empty list
pub Contains-nil : {X : Type 0} (x : X) → Contains [] x → ⊥
Contains-nil x there = absurd (omega arith)

-- an item of a list is its head or stands behind it
pub Contains-cons_cases : {X : Type 0} (y x : X) (xs : List X) → Contains (y ∷ xs) x → (y ≡ x) ⊎ Contains xs x
Contains-cons_cases {X} y x xs there = by (Contains-append_cases (y ∷ []) xs x there)
  where
    by : Contains (y ∷ []) x ⊎ Contains xs x → (y ≡ x) ⊎ Contains xs x
    by (inl first) = elim (Contains-push_cases [] y x first) [ inl none ↦ absurd (Contains-nil x none) | inr is ↦ inl is ]
    by (inr later) = inr later

-- what is changed stands where the list is changed
pub Contains-map : {X Y : Type 0} (f : X → Y) (xs : List X) (x : X) → Contains xs x → Contains (map f xs) (f x)
Contains-map f [] x there = absurd (Contains-nil x there)
Contains-map f (y ∷ xs) x there = elim (Contains-cons_cases y x xs there) [
  | inl is ↦ subst (λ z. Contains (f y ∷ map f xs) (f z)) is (Contains-head (f y) (map f xs))
  | inr later ↦ Contains-behind (f y) (f x) (map f xs) (Contains-map f xs x later)
]

-- what stands in a list that is changed is an item that was changed
pub Contains-from_map : {X Y : Type 0} (f : X → Y) (xs : List X) (y : Y) → Contains (map f xs) y → (x : X) × Contains xs x × (f x ≡ y)
Contains-from_map f [] y there = absurd (Contains-nil y there)
Contains-from_map f (w ∷ ws) y there = elim (Contains-cons_cases (f w) y (map f ws) there) [
  | inl is ↦ (w, Contains-head w ws, is)
  | inr later ↦ let rest = Contains-from_map f ws y later in (rest.0, Contains-behind w rest.0 ws rest.1, rest.2)
]

-- ---- after a filter

-- an item that passes stays
pub Contains-filter : {X : Type 0} (p : X → Bool) (xs : List X) (x : X) → Contains xs x → p x ≡ true → Contains (filter p xs) x
Contains-filter p [] x there passes = absurd (Contains-nil x there)
Contains-filter p (y ∷ xs) x there passes = by (λ later. Contains-filter p xs x later passes) (Contains-cons_cases y x xs there)
  where
    by : (Contains xs x → Contains (filter p xs) x) → (y ≡ x) ⊎ Contains xs x → Contains (filter p (y ∷ xs)) x
    by rest (inl is) = let e : p y ≡ true = ap p is ∙ passes in rw e (subst (λ z. Contains (y ∷ filter p xs) z) is (Contains-head y (filter p xs)))
    by rest (inr later) = elim (p y) as (λ b. Contains (cond b (y ∷ filter p xs) (filter p xs)) x) [
      | true ↦ Contains-behind y x (filter p xs) (rest later)
      | false ↦ rest later
    ]

-- an item that stays stood there before, and passes
pub Contains-from_filter : {X : Type 0} (p : X → Bool) (xs : List X) (x : X) → Contains (filter p xs) x → Contains xs x × (p x ≡ true)
Contains-from_filter p xs x there = (
  All-contains (Contains xs) (filter p xs) x (All-filter p (Contains xs) xs (All-contains_itself xs)) there,
  All-contains (λ y. p y ≡ true) (filter p xs) x (filter_passes p xs) there,
)

-- what a search finds stands in the list, and passes the test
pub Contains-find : {X : Type 0} (p : X → Bool) (xs : List X) (x : X) → find p xs ≡ Some x → Contains xs x × (p x ≡ true)
Contains-find p [] x e = cc
Contains-find p (y ∷ xs) x e = by (Contains-find p xs x) (p y) refl e
  where
    by : (find p xs ≡ Some x → Contains xs x × (p x ≡ true)) → (b : Bool) → p y ≡ b → cond b (Some y) (find p xs) ≡ Some x → Contains (y ∷ xs) x × (p x ≡ true)
    by rest true passes found = let is : y ≡ x = cc in subst (λ z. Contains (y ∷ xs) z × (p z ≡ true)) is (Contains-head y xs, passes)
    by rest false fails found = (Contains-behind y x xs (rest found).0, (rest found).1)

-- where an item passes the test, the search finds one
pub find-some : {X : Type 0} (p : X → Bool) (xs : List X) (x : X) → Contains xs x → p x ≡ true → (y : X) × (find p xs ≡ Some y)
find-some p [] x there passes = absurd (Contains-nil x there)
find-some p (y ∷ xs) x there passes = by (λ later. find-some p xs x later passes) (Contains-cons_cases y x xs there) (p y) refl
  where
    by : (Contains xs x → (z : _) × (find p xs ≡ Some z)) → (y ≡ x) ⊎ Contains xs x → (b : Bool) → p y ≡ b → (z : _) × (cond b (Some y) (find p xs) ≡ Some z)
    by rest there true passes_first = (y, refl)
    by rest (inl is) false fails = cc
    by rest (inr later) false fails = rest later

-- ---- after one item was put in

module _ {K : Type 0} (R : K → K → Ordering) (q : K) where
  -- an item stood there before, or is the new one
  pub Contains-insert_key_cases : (xs : List K) (x : K) → Contains (insert_key R xs q) x → Contains xs x ⊎ (q ≡ x)
  Contains-insert_key_cases xs x there = All-contains (λ y. Contains xs y ⊎ (q ≡ y)) (insert_key R xs q) x
      (All-insert_key R q (λ y. Contains xs y ⊎ (q ≡ y)) xs (All-weaker (Contains xs) (λ y. Contains xs y ⊎ (q ≡ y)) (λ y old. inl old) xs (All-contains_itself xs)) (inr refl)) there

  -- what stood there stands there still
  pub Contains-insert_key_old : (xs : List K) (x : K) → Contains xs x → Contains (insert_key R xs q) x
  Contains-insert_key_old [] x there = absurd (Contains-nil x there)
  Contains-insert_key_old (y ∷ xs) x there = by (Contains-insert_key_old xs x) (R q y)
    where
      by : (Contains xs x → Contains (insert_key R xs q) x) → (r : Ordering) → Contains (match_ordering r (q ∷ y ∷ xs) (y ∷ xs) (y ∷ insert_key R xs q)) x
      by rest Less = Contains-behind q x (y ∷ xs) there
      by rest Equal = there
      by rest Greater = elim (Contains-cons_cases y x xs there) [
        | inl is ↦ subst (Contains (y ∷ insert_key R xs q)) is (Contains-head y (insert_key R xs q))
        | inr later ↦ Contains-behind y x (insert_key R xs q) (rest later)
      ]

  -- what was put in stands there, where equal items are the same
  pub Contains-insert_key_new : ((x : K) → R q x ≡ Equal → q ≡ x) → (xs : List K) → Contains (insert_key R xs q) q
  Contains-insert_key_new same [] = Contains-head q []
  Contains-insert_key_new same (y ∷ xs) = by (Contains-insert_key_new same xs) (R q y) refl
    where
      by : Contains (insert_key R xs q) q → (r : Ordering) → R q y ≡ r → Contains (match_ordering r (q ∷ y ∷ xs) (y ∷ xs) (y ∷ insert_key R xs q)) q
      by rest Less e = Contains-head q (y ∷ xs)
      by rest Equal e = subst (λ z. Contains (z ∷ xs) q) (same y e) (Contains-head q xs)
      by rest Greater e = Contains-behind y q (insert_key R xs q) rest

-- ---- numbers that differ

-- no number comes twice
abbrev pub AreDifferent : List ℕ → Type 0
AreDifferent [] = Unit {0}
AreDifferent (x ∷ xs) = (Contains xs x → ⊥) × AreDifferent xs

-- a filter that leaves out an item is shorter
pub length-filter_without : {X : Type 0} (p : X → Bool) (xs : List X) (x : X) → Contains xs x → p x ≡ false → length (filter p xs) < length xs
length-filter_without p [] x there out = absurd (Contains-nil x there)
length-filter_without p (y ∷ xs) x there out = by (λ later. length-filter_without p xs x later out) (Contains-cons_cases y x xs there) (p y) refl
  where
    by : (Contains xs x → length (filter p xs) < length xs) → (y ≡ x) ⊎ Contains xs x → (b : Bool) → p y ≡ b → length (cond b (y ∷ filter p xs) (filter p xs)) < suc (length xs)
    by rest there false fails = let both = length-filter_both p (λ z. not (p z)) (λ z. refl) xs in omega arith
    by rest (inl is) true passes = cc
    by rest (inr later) true passes = let shorter = rest later in omega arith

-- what holds of each item that a list contains holds of all
pub All-from_contains : {X : Type 0} (P : X → Type 0) (xs : List X) → ((x : X) → Contains xs x → P x) → All P xs
All-from_contains P xs each = All-weaker (Contains xs) P each xs (All-contains_itself xs)

-- different numbers of a list are no more than it has
pub length-different : (xs ys : List ℕ) → AreDifferent xs → All (Contains ys) xs → length xs ≤ length ys
length-different [] ys differ among = omega arith
length-different (x ∷ xs) ys differ among =
    let others : ℕ → Bool = λ y. not (y == x) in
    let shorter : length (filter others ys) < length ys = length-filter_without others ys x (All-head (Contains ys) x xs among) (not_from_true (x == x) (eq-eqb x x refl)) in
    let rest : length xs ≤ length (filter others ys) = length-different xs (filter others ys) differ.1 (All-from_contains (Contains (filter others ys)) xs among_others) in
    omega arith
  where
    among_others : (z : ℕ) → Contains xs z → Contains (filter (λ y. not (y == x)) ys) z
    among_others z there = Contains-filter (λ y. not (y == x)) ys z (All-contains (Contains ys) xs z (All-tail (Contains ys) x xs among) there)
        (not_from_false (z == x) (ne_eqb z x (λ (same : z ≡ x). differ.0 (subst (Contains xs) same there))))
