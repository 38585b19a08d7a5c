-- Lists that rise in an order: which of them are the same, what a search finds, and one item put in.
use Rattle.std.proofs.Common.{◌≡◌, List, [], ◌∷◌, refl, sym, ap, ap₂, subst, ◌∙◌, ◌⊎◌, inl, inr, Bool, true}
use Rattle.std.specs.Prelude.{Contains, find, Some}
use Rattle.std.specs.BTreeSet.{insert_key}
use Rattle.std.specs.Cmp.{IsTotalOrder}
use Rattle.std.specs.List.Sorted.{IsStrictlySortedBy}
use Rattle.std.specs.Ordering.{match_ordering, ordering_reverse}
use Rattle.std.specs.declared.cmp.Ordering.{Ordering}
use Rattle.std.specs.declared.cmp.Ordering.TheVariants.{Less, Equal, Greater}
use Rattle.std.proofs.lemmas.Cmp.{tied_itself}
use Rattle.std.proofs.lemmas.List.Elements.{All-contains, recursion_from_All}
use Rattle.std.proofs.lemmas.Map.Keys.{sorted_tail}
use Rattle.std.proofs.lemmas.Map.Views.{All-after_first}
use Rattle.vt_facts.proofs.MemberLemmas.{Contains-nil, Contains-head, Contains-behind, Contains-cons_cases, Contains-find, find-some, All-from_contains}

module _ {K : Type 0} (R : K → K → Ordering) where
  -- ---- an item that is put in

  -- it stands there, where what the order doesn't tell from it is the same
  pub Contains-insert_key_there : (q : K) (xs : List K) → ((x : K) → Contains xs x → R q x ≡ Equal → q ≡ x) → Contains (insert_key R xs q) q
  Contains-insert_key_there q [] same = Contains-head q []
  Contains-insert_key_there q (y ∷ xs) same = by (Contains-insert_key_there q xs (λ x there e. same x (Contains-behind y x xs there) e)) (R q y) refl
    where
      by : Contains (insert_key R xs q) q → (r : Ordering) → R q y ≡ r → Contains (match_ordering r (q ∷ y ∷ xs) (y ∷ xs) (y ∷ insert_key R xs q)) q
      by rest Less e = Contains-head q (y ∷ xs)
      by rest Equal e = subst (λ z. Contains (z ∷ xs) q) (same y (Contains-head y xs) e) (Contains-head q xs)
      by rest Greater e = Contains-behind y q (insert_key R xs q) rest

  -- ---- a list that rises

  pub rises-none : IsStrictlySortedBy R []
  unfolding IsStrictlySortedBy
  rises-none = tt

  -- a first item that is below the others
  pub rises-cons : (x : K) (xs : List K) → ((y : K) → Contains xs y → R x y ≡ Less) → IsStrictlySortedBy R xs → IsStrictlySortedBy R (x ∷ xs)
  unfolding IsStrictlySortedBy
  rises-cons x xs below rise = (recursion_from_All (λ y. R x y ≡ Less) xs (All-from_contains (λ y. R x y ≡ Less) xs below), rise)

  -- the first item is below the others
  pub first_below : (x : K) (xs : List K) → IsStrictlySortedBy R (x ∷ xs) → (y : K) → Contains xs y → R x y ≡ Less
  first_below x xs rise y there = All-contains (λ q. R x q ≡ Less) xs y (All-after_first R x xs rise) there

  pub rest_rises : (x : K) (xs : List K) → IsStrictlySortedBy R (x ∷ xs) → IsStrictlySortedBy R xs
  rest_rises x xs rise = sorted_tail R x xs rise

  module _ (order : IsTotalOrder R) where
    -- ---- the order

    -- nothing is below itself
    pub not_below_itself : (x : K) → R x x ≡ Less → ⊥
    not_below_itself x less = let tied = tied_itself order x in cc

    -- of two items one is not below the other and above it
    pub not_both_below : (x y : K) → R x y ≡ Less → R y x ≡ Less → ⊥
    not_both_below x y less more = let back : R x y ≡ Greater = order.antisymm x y ∙ ap ordering_reverse more in cc

    -- an item above another is not tied to it
    pub not_tied_below : (x y : K) → R x y ≡ Equal → R y x ≡ Less → ⊥
    not_tied_below x y tied less = let back : R x y ≡ Greater = order.antisymm x y ∙ ap ordering_reverse less in cc

    -- ---- the items of a list that rises

    -- those that the order doesn't tell apart are the same
    pub tied_is : (xs : List K) → IsStrictlySortedBy R xs → (x y : K) → Contains xs x → Contains xs y → R x y ≡ Equal → x ≡ y
    tied_is [] rise x y one other tied = absurd (Contains-nil x one)
    tied_is (w ∷ ws) rise x y one other tied = by (tied_is ws (rest_rises w ws rise) x y) (Contains-cons_cases w x ws one) (Contains-cons_cases w y ws other)
      where
        by : (Contains ws x → Contains ws y → R x y ≡ Equal → x ≡ y) → (w ≡ x) ⊎ Contains ws x → (w ≡ y) ⊎ Contains ws y → x ≡ y
        by rest (inl is) (inl too) = sym is ∙ too
        by rest (inl is) (inr later) = let less : R x y ≡ Less = subst (λ v. R v y ≡ Less) is (first_below w ws rise y later) in cc
        by rest (inr later) (inl is) = absurd (not_tied_below x y tied (subst (λ v. R v x ≡ Less) is (first_below w ws rise x later)))
        by rest (inr later) (inr too) = rest later too tied

    -- a search finds the only item that passes, where those that pass are tied
    pub find_is : (p : K → Bool) (xs : List K) → IsStrictlySortedBy R xs → ((x y : K) → p x ≡ true → p y ≡ true → R x y ≡ Equal)
        → (x : K) → Contains xs x → p x ≡ true → find p xs ≡ Some x
    find_is p xs rise tied x there passes =
        let found = find-some p xs x there passes in
        let other = Contains-find p xs found.0 found.1 in
        found.1 ∙ ap Some (tied_is xs rise found.0 x other.0 there (tied found.0 x other.1 passes))

    -- ---- two lists that rise

    -- the first item of the one is that of the other, where each stands in both
    same_first : (x y : K) (xs ys : List K) → IsStrictlySortedBy R (x ∷ xs) → IsStrictlySortedBy R (y ∷ ys) → Contains (y ∷ ys) x → Contains (x ∷ xs) y → x ≡ y
    same_first x y xs ys s t one other = by (Contains-cons_cases y x ys one) (Contains-cons_cases x y xs other)
      where
        by : (y ≡ x) ⊎ Contains ys x → (x ≡ y) ⊎ Contains xs y → x ≡ y
        by (inl is) there = sym is
        by (inr later) (inl is) = is
        by (inr later) (inr too) = absurd (not_both_below x y (first_below x xs s y too) (first_below y ys t x later))

    -- an item behind the first of the one stands behind that of the other
    same_behind : (x y z : K) (xs ys : List K) → x ≡ y → IsStrictlySortedBy R (x ∷ xs) → ((w : K) → Contains (x ∷ xs) w → Contains (y ∷ ys) w) → Contains xs z → Contains ys z
    same_behind x y z xs ys is s there later = elim (Contains-cons_cases y z ys (there z (Contains-behind x z xs later))) [
      | inl first ↦ absurd (not_below_itself z (subst (λ w. R w z ≡ Less) (is ∙ first) (first_below x xs s z later)))
      | inr behind ↦ behind
    ]

    -- two lists with the same items are the same
    pub same_items : (xs ys : List K) → IsStrictlySortedBy R xs → IsStrictlySortedBy R ys
        → ((z : K) → Contains xs z → Contains ys z) → ((z : K) → Contains ys z → Contains xs z) → xs ≡ ys
    same_items [] [] s t there back = refl
    same_items [] (y ∷ ys) s t there back = absurd (Contains-nil y (back y (Contains-head y ys)))
    same_items (x ∷ xs) [] s t there back = absurd (Contains-nil x (there x (Contains-head x xs)))
    same_items (x ∷ xs) (y ∷ ys) s t there back =
        let is = same_first x y xs ys s t (there x (Contains-head x xs)) (back y (Contains-head y ys)) in
        ap₂ (λ a more. a ∷ more) is (same_items xs ys (rest_rises x xs s) (rest_rises y ys t)
        (λ z later. same_behind x y z xs ys is s there later) (λ z later. same_behind y x z ys xs (sym is) t back later))
