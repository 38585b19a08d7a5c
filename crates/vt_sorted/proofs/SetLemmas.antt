-- The set of the items of a list: sorted, with repeats left out.
use Rattle.std.proofs.Common.{◌≡◌, Bool, true, false, ◌||◌, cond, List, [], ◌∷◌, refl, sym, ap, ◌∙◌}
use Rattle.std.specs.declared.cmp.Ordering.{Ordering}
use Rattle.std.specs.declared.cmp.Ordering.TheVariants.{Equal}
use Rattle.std.specs.List.{dedup, dedup_from}
use Rattle.std.specs.List.Retain.{IsFiltered, DiffersFromLast}
use Rattle.std.specs.List.Sorted.{IsSorted, IsPermutation}
use Rattle.std.specs.Ordering.{eq_by_cmp, is_eq}
use Rattle.std.specs.Cmp.{IsTotalOrder, Equal-is}
use Rattle.std.proofs.lemmas.Cmp.{alike_right}
use Rattle.std.proofs.lemmas.List.Filters.{dedup_is}
use Rattle.std.proofs.lemmas.List.Kept.{IsStrictlySortedBy-dedup}
use Rattle.std.proofs.lemmas.List.Sorted.{list_any-IsPermutation}
use Rattle.vt_sorted.specs.Ascending.{has, IsSetOf}

module _ {K : Type 0} (R : K → K → Ordering) (o : IsTotalOrder R) (same : K → K → Bool) (is : (x y : K) → same x y ≡ is_eq (R x y)) where
  or_itself : (a b : Bool) → (a || (a || b)) ≡ (a || b)
  or_itself true b = refl
  or_itself false b = refl

  -- an item that is left out is equal to the one before it
  has-dedup_from : (k : K) (xs : List K) (q : K) → has R (dedup_from same k xs) q ≡ has R (k ∷ xs) q
  has-dedup_from k [] q = refl
  has-dedup_from k (x ∷ xs) q =
      elim (same x k) as (λ b. same x k ≡ b → has R (cond b (dedup_from same k xs) (k ∷ dedup_from same x xs)) q ≡ has R (k ∷ x ∷ xs) q) [
        | true ↦ λ e.
            let equal : R x k ≡ Equal = (Equal-is (R x k)).0 (sym (is x k) ∙ e) in
            let alike : is_eq (R q x) ≡ is_eq (R q k) = ap is_eq (alike_right o x k q equal) in
            has-dedup_from k xs q ∙ sym (ap (λ b. is_eq (R q k) || (b || has R xs q)) alike ∙ or_itself (is_eq (R q k)) (has R xs q))
        | false ↦ λ _. ap (λ b. is_eq (R q k) || b) (has-dedup_from x xs q)
      ] refl

  has-dedup : (xs : List K) (q : K) → has R (dedup same xs) q ≡ has R xs q
  has-dedup [] q = refl
  has-dedup (x ∷ xs) q = has-dedup_from x xs q

  pub set_of_sorted : (given sorted out : List K) → IsPermutation given sorted → IsSorted R sorted → IsFiltered (DiffersFromLast same) [] sorted out → IsSetOf R given out
  set_of_sorted given sorted out p s f = record {
    ascends = rw (dedup_is same sorted out f) (IsStrictlySortedBy-dedup o is sorted s);
    same = λ q. rw (dedup_is same sorted out f) (has-dedup sorted q ∙ sym (list_any-IsPermutation (eq_by_cmp R q) given sorted p));
  }
