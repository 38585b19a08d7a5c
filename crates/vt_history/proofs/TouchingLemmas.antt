-- Tuples that hold one of some objects.
use Rattle.std.proofs.Common.{◌≡◌, ℕ, length, List, Bool, true, Result, Ok, Err, sym, subst}
use Rattle.std.specs.Prelude.{Contains, is_ok}
use Rattle.std.specs.Cmp.{IsTotalOrder, Equal-is}
use Rattle.std.specs.declared.cmp.Ordering.{Ordering}
use Rattle.std.specs.List.{list_any}
use Rattle.std.specs.List.Sorted.{IsSearchInRange, IsBinarySearchResult}
use Rattle.std.specs.Ordering.{nat_cmp, eq_by_cmp}
use Rattle.std.proofs.lemmas.Cmp.{nat_cmp_total, tied_itself}
use Rattle.std.proofs.lemmas.List.Folds.{Any-from_list_any, list_any-from_Any}
use Rattle.std.proofs.lemmas.Map.Lookups.{exact_unsigned}
use Rattle.vt_sorted.specs.Ascending.{has}
use Rattle.vt_sorted.proofs.SearchLemmas.{stands_at, goes_at}
use Rattle.vt_base.specs.declared.numbers.ObjId.{ObjId}
use Rattle.vt_base.specs.declared.value.Value.{Value}
use Rattle.vt_base.specs.declared.value.Value.TheVariants as value
use Rattle.vt_model.specs.Touched.{Rise}
use Rattle.vt_history.specs.Inside.Touching.{is_one, touches}

-- ---- some item

some_in : {X : Type 0} (p : X → Bool) (xs : List X) → list_any p xs ≡ true → (x : X) × Contains xs x × (p x ≡ true)
some_in p xs h = let found = Any-from_list_any p xs h in (found.1, (found.0, found.2, found.3), found.4)

any_in : {X : Type 0} (p : X → Bool) (xs : List X) (x : X) → Contains xs x → p x ≡ true → list_any p xs ≡ true
any_in p xs x h e = list_any-from_Any p xs (h.0, x, h.1, h.2, e)

-- ---- objects by number

abbrev by_number : ObjId → ObjId → Ordering
by_number a b = nat_cmp a.0 b.0

by_number_total : IsTotalOrder by_number
by_number_total = record {
  trans = λ a b c. nat_cmp_total.trans a.0 b.0 c.0;
  antisymm = λ a b. nat_cmp_total.antisymm a.0 b.0;
  congr = λ a b c. nat_cmp_total.congr a.0 b.0 c.0;
}

-- a search among objects that rise finds one where it stands there
pub is_ok-has : (objects : List ObjId) (o : ObjId) (r : Result ℕ ℕ) → Rise objects → IsSearchInRange r (length objects)
    → IsBinarySearchResult (λ t. nat_cmp t.0 o.0) objects r → is_ok r ≡ has by_number objects o
is_ok-has objects o (Ok i) rise bound found = sym (stands_at by_number by_number_total objects o (Ok i) rise bound found).stands
is_ok-has objects o (Err i) rise bound found = sym (goes_at by_number by_number_total objects o (Err i) rise bound found).absent

Contains-has : (objects : List ObjId) (o : ObjId) → has by_number objects o ≡ true → Contains objects o
Contains-has objects o h =
    let found = some_in (eq_by_cmp by_number o) objects h in
    let same : o.0 ≡ found.0.0 = exact_unsigned o.0 found.0.0 ((Equal-is (nat_cmp o.0 found.0.0)).0 found.2) in
    let is : found.0 ≡ o = λ i. record { 0 = sym same i } in
    subst (Contains objects) is found.1

has-Contains : (objects : List ObjId) (o : ObjId) → Contains objects o → has by_number objects o ≡ true
has-Contains objects o there =
    any_in (eq_by_cmp by_number o) objects o there ((Equal-is (nat_cmp o.0 o.0)).1 (tied_itself nat_cmp_total o.0))

-- ---- the tuples that are touched

-- one of the objects is among its values
pub among-touches : (objects : List ObjId) (row : List Value) → touches objects row ≡ true → (o : ObjId) × Contains row (value.Obj o) × Contains objects o
among-touches objects row h = let found = some_in (is_one objects) row h in by found.0 found.1 found.2
  where
    by : (v : Value) → Contains row v → is_one objects v ≡ true → (o : ObjId) × Contains row (value.Obj o) × Contains objects o
    by (value.Obj o) there is = (o, there, Contains-has objects o is)
    by v there is = cc

pub touches-among : (objects : List ObjId) (row : List Value) (o : ObjId) → Contains row (value.Obj o) → Contains objects o → touches objects row ≡ true
touches-among objects row o there is = any_in (is_one objects) row (value.Obj o) there (has-Contains objects o is)
