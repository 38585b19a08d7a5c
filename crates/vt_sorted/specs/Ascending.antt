-- Sets as strictly ascending lists, under any order of their items.
use Rattle.std.specs.Prelude.{◌≡◌, Bool, not, cond, List, ◌∷◌, ◌++◌}
use Rattle.std.specs.declared.cmp.Ordering.{Ordering}
use Rattle.std.specs.List.{filter, list_any}
use Rattle.std.specs.List.Sorted.{IsStrictlySortedBy}
use Rattle.std.specs.Ordering.{eq_by_cmp, is_eq, is_lt}

-- whether an item of the list is equal to q in order
abbrev pub has : {K : Type 0} → (K → K → Ordering) → List K → K → Bool
has R xs q = list_any (eq_by_cmp R q) xs

-- the items that don't meet a test
abbrev pub items_after : {K : Type 0} → (K → Bool) → List K → List K
items_after test xs = filter (λ x. not (test x)) xs

-- the items below q
abbrev pub items_below : {K : Type 0} → (K → K → Ordering) → List K → K → List K
items_below R xs q = filter (λ x. is_lt (R x q)) xs

-- the items from q on: those that aren't below it
abbrev pub items_from : {K : Type 0} → (K → K → Ordering) → List K → K → List K
items_from R xs q = items_after (λ x. is_lt (R x q)) xs

-- with q at its place, or as it is where q stands
abbrev pub with_item : {K : Type 0} → (K → K → Ordering) → List K → K → List K
with_item R xs q = cond (has R xs q) xs (items_below R xs q ++ q ∷ items_from R xs q)

-- without what is equal to q in order
abbrev pub without_item : {K : Type 0} → (K → K → Ordering) → List K → K → List K
without_item R xs q = items_after (λ x. is_eq (R x q)) xs

-- the set of the items of a list
pub record IsSetOf {K : Type 0} (R : K → K → Ordering) (given set : List K) : Type 0 where
  pub ascends : IsStrictlySortedBy R set
  pub same : (q : K) → has R set q ≡ has R given q
