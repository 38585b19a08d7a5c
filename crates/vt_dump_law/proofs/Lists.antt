-- Lists that rise, and lists in which one item at most passes a test.
use Rattle.std.proofs.Common.{◌≡◌, ◌+◌, List, [], ◌∷◌, ◌++◌, map, refl, sym, ap, subst, ◌∙◌, cond, arith, Bool, true, false, ◌⊎◌, inl, inr}
use Rattle.std.specs.Prelude.{◌≤◌, ◌&&◌, Contains, count_by, filter, flat_map}
use Rattle.std.specs.List.Sorted.{IsStrictlySortedBy}
use Rattle.std.specs.BTreeSet.{insert_key}
use Rattle.std.specs.Cmp.{IsTotalOrder}
use Rattle.std.specs.Ordering.{match_ordering, ordering_reverse}
use Rattle.std.specs.declared.cmp.Ordering.{Ordering}
use Rattle.std.specs.declared.cmp.Ordering.TheVariants.{Less, Equal, Greater}
use Rattle.std.proofs.lemmas.Cmp.{tied_itself}
use Rattle.std.proofs.lemmas.List.{map-append}
use Rattle.std.proofs.lemmas.List.Elements.{All-contains, All-from_recursion, Contains-append_left, Contains-append_right, Contains-append_cases}
use Rattle.std.proofs.lemmas.Map.Keys.{sorted_head, sorted_tail}
use Rattle.vt_facts.proofs.MemberLemmas.{Contains-head, Contains-behind, Contains-nil, Contains-cons_cases}
use Rattle.vt_facts.proofs.CountLemmas.{count_by-cons, count_by-yes, count_by-no}

-- ---- lists made of others

-- what stands in a list that is changed comes from what is changed to it
pub Contains-map_cases : {X Y : Type 0} (f : X → Y) (xs : List X) (y : Y) → Contains (map f xs) y → (x : X) × Contains xs x × (f x ≡ y)
Contains-map_cases f [] y there = absurd (Contains-nil y there)
Contains-map_cases f (x ∷ xs) y there = by (λ later. Contains-map_cases f xs y later) (Contains-cons_cases (f x) y (map f xs) there)
  where
    by : (Contains (map f xs) y → (z : _) × Contains xs z × (f z ≡ y)) → (f x ≡ y) ⊎ Contains (map f xs) y → (z : _) × Contains (x ∷ xs) z × (f z ≡ y)
    by rest (inl is) = (x, Contains-head x xs, is)
    by rest (inr later) = let from = rest later in (from.0, Contains-behind x from.0 xs from.1, from.2)

-- what is changed to the same
pub map_same : {X Y : Type 0} (f h : X → Y) (xs : List X) → ((x : X) → Contains xs x → f x ≡ h x) → map f xs ≡ map h xs
map_same f h [] each = refl
map_same f h (x ∷ xs) each = ap (λ y. y ∷ map f xs) (each x (Contains-head x xs)) ∙ ap (λ ys. h x ∷ ys) (map_same f h xs (λ y there. each y (Contains-behind x y xs there)))

-- what is changed twice to the same
pub map_map_same : {X Y Z : Type 0} (f : Y → Z) (h : X → Y) (k : X → Z) (xs : List X) → ((x : X) → Contains xs x → f (h x) ≡ k x) → map f (map h xs) ≡ map k xs
map_map_same f h k [] each = refl
map_map_same f h k (x ∷ xs) each = ap (λ y. y ∷ map f (map h xs)) (each x (Contains-head x xs)) ∙ ap (λ ys. k x ∷ ys) (map_map_same f h k xs (λ y there. each y (Contains-behind x y xs there)))

-- lists made of each item of a list are what all their items are changed to
pub flat_map_same : {X Y Z : Type 0} (f : X → List Z) (h : Y → Z) (k : X → List Y) (xs : List X) → ((x : X) → Contains xs x → f x ≡ map h (k x)) → flat_map f xs ≡ map h (flat_map k xs)
flat_map_same f h k [] each = refl
flat_map_same f h k (x ∷ xs) each =
    ap (λ ys. ys ++ flat_map f xs) (each x (Contains-head x xs))
    ∙ ap (λ ys. map h (k x) ++ ys) (flat_map_same f h k xs (λ y there. each y (Contains-behind x y xs there)))
    ∙ sym (map-append h (k x) (flat_map k xs))

-- the same where the items are made of others
pub flat_map_map : {X Y Z : Type 0} (f : Y → List Z) (h : X → Y) (xs : List X) → flat_map f (map h xs) ≡ flat_map (λ x. f (h x)) xs
flat_map_map f h [] = refl
flat_map_map f h (x ∷ xs) = ap (λ ys. f (h x) ++ ys) (flat_map_map f h xs)

-- what stands in one of the lists stands in all of them together
pub Contains-flat_map : {X Y : Type 0} (f : X → List Y) (xs : List X) (x : X) (y : Y) → Contains xs x → Contains (f x) y → Contains (flat_map f xs) y
Contains-flat_map f [] x y there among = absurd (Contains-nil x there)
Contains-flat_map f (z ∷ xs) x y there among = by (λ later. Contains-flat_map f xs x y later among) (Contains-cons_cases z x xs there)
  where
    by : (Contains xs x → Contains (flat_map f xs) y) → (z ≡ x) ⊎ Contains xs x → Contains (f z ++ flat_map f xs) y
    by rest (inl is) = Contains-append_left (f z) (flat_map f xs) y (subst (λ w. Contains (f w) y) (sym is) among)
    by rest (inr later) = Contains-append_right (f z) (flat_map f xs) y (rest later)

-- and back
pub Contains-flat_map_cases : {X Y : Type 0} (f : X → List Y) (xs : List X) (y : Y) → Contains (flat_map f xs) y → (x : X) × Contains xs x × Contains (f x) y
Contains-flat_map_cases f [] y there = absurd (Contains-nil y there)
Contains-flat_map_cases f (x ∷ xs) y there = by (λ later. Contains-flat_map_cases f xs y later) (Contains-append_cases (f x) (flat_map f xs) y there)
  where
    by : (Contains (flat_map f xs) y → (z : _) × Contains xs z × Contains (f z) y) → Contains (f x) y ⊎ Contains (flat_map f xs) y → (z : _) × Contains (x ∷ xs) z × Contains (f z) y
    by rest (inl here) = (x, Contains-head x xs, here)
    by rest (inr later) = let from = rest later in (from.0, Contains-behind x from.0 xs from.1, from.2)

-- ---- one item at most passes

module _ {X : Type 0} (p : X → Bool) where
  -- one that passes counts
  pub count_by-contains : (xs : List X) (x : X) → Contains xs x → p x ≡ true → 1 ≤ count_by p xs
  count_by-contains [] x there passes = absurd (Contains-nil x there)
  count_by-contains (y ∷ xs) x there passes = by (λ later. count_by-contains xs x later passes) (Contains-cons_cases y x xs there)
    where
      by : (Contains xs x → 1 ≤ count_by p xs) → (y ≡ x) ⊎ Contains xs x → 1 ≤ count_by p (y ∷ xs)
      by rest (inl is) = let more = count_by-yes p y xs (ap p is ∙ passes) in omega (arith, more)
      by rest (inr later) = let all = count_by-cons p y xs in omega (arith, all, rest later)

  -- where some are counted, one stands there
  pub some_counted : (xs : List X) → 1 ≤ count_by p xs → (x : X) × Contains xs x × (p x ≡ true)
  some_counted [] some = absurd (omega (arith, some))
  some_counted (y ∷ xs) some = by (some_counted xs) (p y) refl
    where
      by : (1 ≤ count_by p xs → (x : X) × Contains xs x × (p x ≡ true)) → (b : Bool) → p y ≡ b → (x : X) × Contains (y ∷ xs) x × (p x ≡ true)
      by rest true passes = (y, Contains-head y xs, passes)
      by rest false fails =
          let less = count_by-no p y xs fails in
          let later = rest (omega (arith, some, less)) in
          (later.0, Contains-behind y later.0 xs later.1, later.2)

  -- two that pass are the same
  pub only_one : (xs : List X) (x y : X) → count_by p xs ≤ 1 → Contains xs x → Contains xs y → p x ≡ true → p y ≡ true → x ≡ y
  only_one [] x y once first second passes too = absurd (Contains-nil x first)
  only_one (z ∷ xs) x y once first second passes too =
      let all = count_by-cons p z xs in
      by (λ a b. only_one xs x y (omega (arith, all, once)) a b passes too) (Contains-cons_cases z x xs first) (Contains-cons_cases z y xs second)
    where
      here : (w : X) → z ≡ w → p w ≡ true → (v : X) → Contains xs v → p v ≡ true → ⊥
      here w is passes v there too =
          let more = count_by-yes p z xs (ap p is ∙ passes) in
          let other = count_by-contains xs v there too in
          omega (arith, more, other, once)

      by : (Contains xs x → Contains xs y → x ≡ y) → (z ≡ x) ⊎ Contains xs x → (z ≡ y) ⊎ Contains xs y → x ≡ y
      by rest (inl a) (inl b) = sym a ∙ b
      by rest (inl a) (inr b) = absurd (here x a passes y b too)
      by rest (inr a) (inl b) = absurd (here y b too x a passes)
      by rest (inr a) (inr b) = rest a b

  -- what passes of what another test keeps passes both
  pub count_by-filtered : (q : X → Bool) (xs : List X) → count_by p (filter q xs) ≡ count_by (λ x. q x && p x) xs
  count_by-filtered q [] = refl
  count_by-filtered q (x ∷ xs) =
      elim (q x) as (λ b. q x ≡ b → count_by p (cond b (x ∷ filter q xs) (filter q xs)) ≡ count_by (λ x. q x && p x) (x ∷ xs)) [
        | true ↦ λ e. count_by-cons p x (filter q xs) ∙ ap (λ n. cond (p x) 1 0 + n) (count_by-filtered q xs)
            ∙ sym (count_by-cons (λ x. q x && p x) x xs ∙ ap (λ b. cond (b && p x) 1 0 + count_by (λ x. q x && p x) xs) e)
        | false ↦ λ e. count_by-filtered q xs ∙ sym (count_by-no (λ x. q x && p x) x xs (ap (λ b. b && p x) e))
      ] refl

-- ---- lists that rise

module _ {K : Type 0} (R : K → K → Ordering) where
  -- the head is below the others
  pub below_head : (x : K) (xs : List K) → IsStrictlySortedBy R (x ∷ xs) → (y : K) → Contains xs y → R x y ≡ Less
  below_head x xs rise y there = All-contains (λ y. R x y ≡ Less) xs y (All-from_recursion (λ y. R x y ≡ Less) xs (sorted_head R x xs rise)) there

  module _ (order : IsTotalOrder R) where
    -- nothing is below itself
    not_below : (x : K) → R x x ≡ Less → ⊥
    not_below x below = let same = tied_itself order x in cc

    -- items that the order doesn't tell apart are the same
    pub same_if_equal : (xs : List K) (x y : K) → IsStrictlySortedBy R xs → Contains xs x → Contains xs y → R x y ≡ Equal → x ≡ y
    same_if_equal [] x y rise first second e = absurd (Contains-nil x first)
    same_if_equal (z ∷ xs) x y rise first second e =
        by (λ a b. same_if_equal xs x y (sorted_tail R z xs rise) a b e) (Contains-cons_cases z x xs first) (Contains-cons_cases z y xs second)
      where
        by : (Contains xs x → Contains xs y → x ≡ y) → (z ≡ x) ⊎ Contains xs x → (z ≡ y) ⊎ Contains xs y → x ≡ y
        by rest (inl a) (inl b) = sym a ∙ b
        by rest (inl a) (inr b) = let less : R x y ≡ Less = subst (λ w. R w y ≡ Less) a (below_head z xs rise y b) in cc
        by rest (inr a) (inl b) =
            let less : R y x ≡ Less = subst (λ w. R w x ≡ Less) b (below_head z xs rise x a) in
            let greater : R x y ≡ Greater = order.antisymm x y ∙ ap ordering_reverse less in
            cc
        by rest (inr a) (inr b) = rest a b

    -- rising lists with the same items have the same head
    same_head : (x y : K) (xs ys : List K) → IsStrictlySortedBy R (x ∷ xs) → IsStrictlySortedBy R (y ∷ ys) → Contains (y ∷ ys) x → Contains (x ∷ xs) y → x ≡ y
    same_head x y xs ys first second a b = by (Contains-cons_cases y x ys a) (Contains-cons_cases x y xs b)
      where
        by : (y ≡ x) ⊎ Contains ys x → (x ≡ y) ⊎ Contains xs y → x ≡ y
        by (inl is) other = sym is
        by (inr later) (inl is) = is
        by (inr later) (inr behind) = absurd (not_below x (order.trans x y x (below_head x xs first y behind) (below_head y ys second x later)))

    -- and the same items behind it
    among_tail : (x y : K) (xs ys : List K) → IsStrictlySortedBy R (x ∷ xs) → x ≡ y → ((z : K) → Contains (x ∷ xs) z → Contains (y ∷ ys) z) → (z : K) → Contains xs z → Contains ys z
    among_tail x y xs ys rise same each z there = by (Contains-cons_cases y z ys (each z (Contains-behind x z xs there)))
      where
        by : (y ≡ z) ⊎ Contains ys z → Contains ys z
        by (inl is) = absurd (not_below x (subst (λ w. R x w ≡ Less) (sym (same ∙ is)) (below_head x xs rise z there)))
        by (inr later) = later

    -- so they are the same
    pub same_members : (xs ys : List K) → IsStrictlySortedBy R xs → IsStrictlySortedBy R ys → ((z : K) → Contains xs z → Contains ys z) → ((z : K) → Contains ys z → Contains xs z) → xs ≡ ys
    same_members [] [] first second forth back = refl
    same_members [] (y ∷ ys) first second forth back = absurd (Contains-nil y (back y (Contains-head y ys)))
    same_members (x ∷ xs) [] first second forth back = absurd (Contains-nil x (forth x (Contains-head x xs)))
    same_members (x ∷ xs) (y ∷ ys) first second forth back =
        let same = same_head x y xs ys first second (forth x (Contains-head x xs)) (back y (Contains-head y ys)) in
        let rest = same_members xs ys (sorted_tail R x xs first) (sorted_tail R y ys second)
        (among_tail x y xs ys first same forth) (among_tail y x ys xs second (sym same) back) in
        ap (λ z. z ∷ xs) same ∙ ap (λ zs. y ∷ zs) rest

  -- ---- insert_key

  -- what is put in stands there, where items that the order doesn't tell apart from it are it
  pub Contains-insert_key_here : (q : K) (xs : List K) → ((x : K) → Contains xs x → R q x ≡ Equal → q ≡ x) → Contains (insert_key R xs q) q
  Contains-insert_key_here q [] same = Contains-head q []
  Contains-insert_key_here q (y ∷ xs) same = by (Contains-insert_key_here q xs (λ x there. same x (Contains-behind y x xs there))) (R q y) refl
    where
      by : Contains (insert_key R xs q) q → (r : Ordering) → R q y ≡ r → Contains (match_ordering r (q ∷ y ∷ xs) (y ∷ xs) (y ∷ insert_key R xs q)) q
      by rest Less e = Contains-head q (y ∷ xs)
      by rest Equal e = subst (λ z. Contains (z ∷ xs) q) (same y (Contains-head y xs) e) (Contains-head q xs)
      by rest Greater e = Contains-behind y q (insert_key R xs q) rest
