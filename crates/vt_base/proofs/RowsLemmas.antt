-- Ascending lists, and what stands in them, under any order in which equal items are equal.
use Rattle.std.proofs.Common.{◌≡◌, Bool, true, false, ◌||◌, List, [], ◌∷◌, refl, sym, ap, ◌∙◌, arith}
use mathlib.Core.Bool.{false≢true}
use Rattle.std.specs.declared.cmp.Ordering.{Ordering}
use Rattle.std.specs.declared.cmp.Ordering.TheVariants.{Less, Equal, Greater}
use Rattle.std.specs.List.{AllByRecursion}
use Rattle.std.specs.List.Sorted.{IsStrictlySortedBy}
use Rattle.std.specs.Ordering.{eq_by_cmp, is_eq, ordering_reverse}
use Rattle.std.specs.Set.{is_member}
use Rattle.std.specs.Cmp.{IsTotalOrder, Equal-is}
use Rattle.std.proofs.lemmas.Cmp.{tied_itself}
use Rattle.std.proofs.lemmas.Map.Lookups.{CmpEqualImpliesEq}

module _ {K : Type 0} (R : K → K → Ordering) where
  -- whether an item stands in a list
  abbrev pub has : List K → K → Bool
  has xs q = is_member (eq_by_cmp R) xs q

  -- x is below each of ys
  abbrev pub IsBelow : K → List K → Type 0
  IsBelow x ys = AllByRecursion (λ y. R x y ≡ Less) ys

  -- ---- IsStrictlySortedBy

  pub ascends-none : IsStrictlySortedBy R []
  unfolding IsStrictlySortedBy
  ascends-none = tt

  pub first_below : (x : K) (xs : List K) → IsStrictlySortedBy R (x ∷ xs) → IsBelow x xs
  unfolding IsStrictlySortedBy
  first_below x xs s = s.0

  pub rest_ascends : (x : K) (xs : List K) → IsStrictlySortedBy R (x ∷ xs) → IsStrictlySortedBy R xs
  unfolding IsStrictlySortedBy
  rest_ascends x xs s = s.1

  -- what is below each item is none of them
  pub has-below : (q : K) (ys : List K) → IsBelow q ys → has ys q ≡ false
  has-below q [] b = refl
  has-below q (y ∷ ys) b = rw b.0 (has-below q ys b.1)

  module _ (order : IsTotalOrder R) where
    below_further : (x y : K) (ys : List K) → R x y ≡ Less → IsBelow y ys → IsBelow x ys
    below_further x y [] l b = tt
    below_further x y (z ∷ ys) l b = (order.trans x y z l b.0, below_further x y ys l b.1)

    -- what is below the first of an ascending list is below all of it
    pub below_all : (q x : K) (xs : List K) → R q x ≡ Less → IsStrictlySortedBy R (x ∷ xs) → IsBelow q (x ∷ xs)
    below_all q x xs l s = (l, below_further q x xs l (first_below x xs s))

    pub swapped : (x y : K) {o : Ordering} → R y x ≡ o → R x y ≡ ordering_reverse o
    swapped x y e = order.antisymm x y ∙ ap ordering_reverse e

    -- an item stands in its list
    has-first : (x : K) (xs : List K) → has (x ∷ xs) x ≡ true
    has-first x xs = ap (λ r. is_eq r || has xs x) (tied_itself order x)

    module _ (exact : CmpEqualImpliesEq R) where
      is_equal : (x y : K) → eq_by_cmp R x y ≡ true → x ≡ y
      is_equal x y e = exact x y ((Equal-is (R x y)).0 e)

      -- ---- lists with the same items are one

      rest_same : (x y : K) (xs ys : List K) → x ≡ y → IsStrictlySortedBy R (x ∷ xs) → IsStrictlySortedBy R (y ∷ ys) → ((q : K) → has (x ∷ xs) q ≡ has (y ∷ ys) q) → (q : K) → has xs q ≡ has ys q
      rest_same x y xs ys e s t same q =
          elim (R q x) as (λ r. R q x ≡ r → has xs q ≡ has ys q) [
            | Less ↦ λ l. let apart : is_eq (R q x) ≡ false = ap is_eq l in grind (arith, same q)
            | Equal ↦ λ l. rw (exact q x l) (has-below x xs (first_below x xs s) ∙ sym (has-below x ys (rw e (first_below y ys t))))
            | Greater ↦ λ l. let apart : is_eq (R q x) ≡ false = ap is_eq l in grind (arith, same q)
          ] refl

      pub same_list : (xs ys : List K) → IsStrictlySortedBy R xs → IsStrictlySortedBy R ys → ((q : K) → has xs q ≡ has ys q) → xs ≡ ys
      same_list [] [] s t same = refl
      same_list [] (y ∷ ys) s t same = absurd (false≢true (same y ∙ has-first y ys))
      same_list (x ∷ xs) [] s t same = absurd (false≢true (sym (same x) ∙ has-first x xs))
      same_list (x ∷ xs) (y ∷ ys) s t same =
          elim (R x y) as (λ r. R x y ≡ r → (x ∷ xs) ≡ (y ∷ ys)) [
            | Less ↦ λ l. absurd (false≢true (sym (has-below x (y ∷ ys) (below_all x y ys l t)) ∙ sym (same x) ∙ has-first x xs))
            | Equal ↦ λ e. rw (exact x y e) (ap (λ zs. y ∷ zs) (same_list xs ys (rest_ascends x xs s) (rest_ascends y ys t) (λ q. rest_same x y xs ys (exact x y e) s t same q)))
            | Greater ↦ λ g. absurd (false≢true (sym (has-below y (x ∷ xs) (below_all y x xs (swapped y x g) s)) ∙ same y ∙ has-first y ys))
          ] refl
