-- Lists in order: one after another, and one item put in.
use Rattle.std.proofs.Common.{◌≡◌, List, [], ◌∷◌, ◌++◌, refl, ap, ◌∙◌}
use Rattle.std.specs.Prelude.{All}
use Rattle.std.specs.List.Sorted.{IsStrictlySortedBy}
use Rattle.std.specs.Cmp.{IsTotalOrder}
use Rattle.std.specs.BTreeSet.{insert_key}
use Rattle.std.specs.Ordering.{match_ordering, ordering_reverse}
use Rattle.std.specs.declared.cmp.Ordering.{Ordering}
use Rattle.std.specs.declared.cmp.Ordering.TheVariants.{Less, Equal, Greater}
use Rattle.std.proofs.lemmas.List.Elements.{All-append, All-head, All-tail, All-weaker, All-from_recursion, recursion_from_All}
use Rattle.std.proofs.lemmas.Map.Views.{All-insert_key}

module _ {K : Type 0} (R : K → K → Ordering) where
  -- each item of the first list is below each of the second
  pub IsStrictlySortedBy-append : (xs ys : List K) → IsStrictlySortedBy R xs → IsStrictlySortedBy R ys
      → All (λ x. All (λ y. R x y ≡ Less) ys) xs → IsStrictlySortedBy R (xs ++ ys)
  unfolding IsStrictlySortedBy
  IsStrictlySortedBy-append [] ys first second below = second
  IsStrictlySortedBy-append (x ∷ xs) ys first second below = (
    recursion_from_All (λ y. R x y ≡ Less) (xs ++ ys) (All-append (λ y. R x y ≡ Less) xs ys (All-from_recursion (λ y. R x y ≡ Less) xs first.0) (All-head (λ z. All (λ y. R z y ≡ Less) ys) x xs below)),
    IsStrictlySortedBy-append xs ys first.1 second (All-tail (λ z. All (λ y. R z y ≡ Less) ys) x xs below),
  )

  -- an item that is put in goes to its place
  pub IsStrictlySortedBy-insert_key : IsTotalOrder R → (xs : List K) (q : K) → IsStrictlySortedBy R xs → IsStrictlySortedBy R (insert_key R xs q)
  unfolding IsStrictlySortedBy
  IsStrictlySortedBy-insert_key o [] q sorted = (tt, tt)
  IsStrictlySortedBy-insert_key o (x ∷ xs) q sorted =
      elim (R q x) as (λ r. R q x ≡ r → IsStrictlySortedBy R (match_ordering r (q ∷ x ∷ xs) (x ∷ xs) (x ∷ insert_key R xs q))) [
        | Less ↦ λ e. ((e, recursion_from_All (λ y. R q y ≡ Less) xs (All-weaker (λ y. R x y ≡ Less) (λ y. R q y ≡ Less) (λ y below. o.trans q x y e below) xs (All-from_recursion (λ y. R x y ≡ Less) xs sorted.0))), sorted)
        | Equal ↦ λ e. sorted
        | Greater ↦ λ e. (recursion_from_All (λ y. R x y ≡ Less) (insert_key R xs q) (All-insert_key R q (λ y. R x y ≡ Less) xs (All-from_recursion (λ y. R x y ≡ Less) xs sorted.0) (o.antisymm x q ∙ ap ordering_reverse e)), IsStrictlySortedBy-insert_key o xs q sorted.1)
      ] refl
