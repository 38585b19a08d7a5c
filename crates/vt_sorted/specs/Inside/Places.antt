-- An item's place in an ascending list, and where a front of it ends.
use Rattle.std.specs.Prelude.{◌≡◌, ℕ, ◌<◌, ◌≤◌, Bool, true, false, List, length, drop, insert, remove, slice_get, None}
use Rattle.std.specs.declared.cmp.Ordering.{Ordering}
use Rattle.std.specs.List.{AllByRecursion, find}
use Rattle.std.specs.List.Sorted.{IsStrictlySortedBy}
use Rattle.std.specs.Ordering.{eq_by_cmp}
use Rattle.vt_sorted.specs.Ascending.{has, with_item, without_item, items_after, items_from}

-- q stands at place i
pub record StandsAt {K : Type 0} (R : K → K → Ordering) (xs : List K) (q : K) (i : ℕ) : Type 0 where
  pub in_range : i < length xs
  pub stands : has R xs q ≡ true
  pub found : find (eq_by_cmp R q) xs ≡ slice_get xs i
  pub added : with_item R xs q ≡ xs
  pub taken : remove xs i ≡ without_item R xs q
  pub ascends : IsStrictlySortedBy R (remove xs i)
  pub from : items_from R xs q ≡ drop i xs

-- q doesn't stand, and would go to place i
pub record GoesAt {K : Type 0} (R : K → K → Ordering) (xs : List K) (q : K) (i : ℕ) : Type 0 where
  pub in_range : i ≤ length xs
  pub absent : has R xs q ≡ false
  pub found : find (eq_by_cmp R q) xs ≡ None
  pub added : insert xs i q ≡ with_item R xs q
  pub ascends : IsStrictlySortedBy R (insert xs i q)
  pub taken : without_item R xs q ≡ xs
  pub from : items_from R xs q ≡ drop i xs

-- each item meets the test
abbrev pub AllMeet : {K : Type 0} → (K → Bool) → List K → Type 0
AllMeet test xs = AllByRecursion (λ x. test x ≡ true) xs

-- no item meets it
abbrev pub NoneMeet : {K : Type 0} → (K → Bool) → List K → Type 0
NoneMeet test xs = AllByRecursion (λ x. test x ≡ false) xs

-- the items from place i on are those that don't meet the test
pub record EndsAt {K : Type 0} (test : K → Bool) (xs : List K) (i : ℕ) : Type 0 where
  pub in_range : i ≤ length xs
  pub left : items_after test xs ≡ drop i xs
