-- A list that is put in another order holds the same items, before an edit and after it.
use Rattle.std.proofs.Common.{◌≡◌, Bool, true, false, not, ◌&&◌, ◌||◌, cond, List, [], ◌∷◌, ◌++◌, refl, sym, ap, ◌∙◌}
use Rattle.std.specs.Prelude.{Contains, filter}
use Rattle.std.specs.declared.cmp.Ordering.{Ordering}
use Rattle.std.specs.List.Sorted.{IsStrictlySortedBy}
use Rattle.std.specs.Ordering.{eq_by_cmp, is_eq, is_lt}
use Rattle.std.specs.Cmp.{IsTotalOrder}
use Rattle.std.proofs.lemmas.Cmp.{eq_by_cmp_equiv}
use Rattle.std.proofs.lemmas.List.Folds.{list_any-append}
use Rattle.std.proofs.lemmas.List.Kept.{IsStrictlySortedBy-filter}
use Rattle.std.proofs.lemmas.Map.Lookups.{CmpEqualImpliesEq}
use Rattle.std.proofs.lemmas.Map.Made.{is_member-filter, is_member-Decides}
use Rattle.vt_sorted.specs.Ascending.{has, items_below, items_from, with_item, without_item}
use Rattle.vt_sorted.proofs.AscendingLemmas.{sorted_none, sorted-with_item}
use Rattle.vt_base.proofs.OrderLemmas.{eq_by_cmp-Decides}
use Rattle.vt_base.proofs.RowsLemmas.{same_list}
use Rattle.vt_resolve.specs.Inside.InOrder.{in_order}

-- what stands in a list, told by a test that goes over both parts of it
in_parts : (a b c : Bool) → ((a && c) || (b || (a && not c))) ≡ (b || a)
in_parts true true true = refl
in_parts true true false = refl
in_parts true false true = refl
in_parts true false false = refl
in_parts false true c = refl
in_parts false false c = refl

-- two tests of one fact
same_test : (b c : Bool) → (b ≡ true → c ≡ true) → (c ≡ true → b ≡ true) → b ≡ c
same_test true true f g = refl
same_test false false f g = refl
same_test true false f g = sym (f refl)
same_test false true f g = g refl

module _ {K : Type 0} (R : K → K → Ordering) (o : IsTotalOrder R) (exact : CmpEqualImpliesEq R) where
  -- ---- what stands in a list

  same_item : (a b : K) → eq_by_cmp R a b ≡ true → a ≡ b
  same_item a b = (eq_by_cmp-Decides o exact a b).0

  pub there : (xs : List K) (q : K) → has R xs q ≡ true → Contains xs q
  there xs q = (is_member-Decides (eq_by_cmp-Decides o exact) xs q).0

  pub has_there : (xs : List K) (q : K) → Contains xs q → has R xs q ≡ true
  has_there xs q = (is_member-Decides (eq_by_cmp-Decides o exact) xs q).1

  has-kept : (p : K → Bool) (xs : List K) (q : K) → has R (filter p xs) q ≡ (has R xs q && p q)
  has-kept p xs q = is_member-filter (eq_by_cmp_equiv o) p q (λ r same. ap p (same_item q r same)) xs

  -- what stands already
  stood : (xs : List K) (q p : K) → has R xs q ≡ true → has R xs p ≡ (eq_by_cmp R p q || has R xs p)
  stood xs q p e =
      elim (eq_by_cmp R p q) as (λ b. eq_by_cmp R p q ≡ b → has R xs p ≡ (b || has R xs p)) [
        | true ↦ λ same. rw (same_item p q same) e
        | false ↦ λ apart. refl
      ] refl

  pub has-with_item : (xs : List K) (q p : K) → has R (with_item R xs q) p ≡ (eq_by_cmp R p q || has R xs p)
  has-with_item xs q p =
      elim (has R xs q) as (λ b. has R xs q ≡ b → has R (cond b xs (items_below R xs q ++ q ∷ items_from R xs q)) p ≡ (eq_by_cmp R p q || has R xs p)) [
        | true ↦ λ e. stood xs q p e
        | false ↦ λ absent.
            list_any-append (eq_by_cmp R p) (items_below R xs q) (q ∷ items_from R xs q)
            ∙ ap (λ b. b || (eq_by_cmp R p q || has R (items_from R xs q) p)) (has-kept (λ x. is_lt (R x q)) xs p)
            ∙ ap (λ b. (has R xs p && is_lt (R p q)) || (eq_by_cmp R p q || b)) (has-kept (λ x. not (is_lt (R x q))) xs p)
            ∙ in_parts (has R xs p) (eq_by_cmp R p q) (is_lt (R p q))
      ] refl

  pub has-without_item : (xs : List K) (q p : K) → has R (without_item R xs q) p ≡ (has R xs p && not (eq_by_cmp R p q))
  has-without_item xs q p = has-kept (λ x. not (is_eq (R x q))) xs p

  -- ---- in_order

  pub in_order-ascends : (xs : List K) → IsStrictlySortedBy R (in_order R xs)
  in_order-ascends [] = sorted_none R
  in_order-ascends (x ∷ xs) = sorted-with_item R o (in_order R xs) x (in_order-ascends xs)

  pub has-in_order : (xs : List K) (q : K) → has R (in_order R xs) q ≡ has R xs q
  has-in_order [] q = refl
  has-in_order (x ∷ xs) q = has-with_item (in_order R xs) x q ∙ ap (λ b. eq_by_cmp R q x || b) (has-in_order xs q)

-- ---- two orders of the same items

module _ {K : Type 0} (R S : K → K → Ordering) (o : IsTotalOrder R) (exact : CmpEqualImpliesEq R) (os : IsTotalOrder S) (exact_s : CmpEqualImpliesEq S) where
  same_eq : (p q : K) → eq_by_cmp R p q ≡ eq_by_cmp S p q
  same_eq p q = same_test (eq_by_cmp R p q) (eq_by_cmp S p q)
      (λ e. (eq_by_cmp-Decides os exact_s p q).1 ((eq_by_cmp-Decides o exact p q).0 e))
      (λ e. (eq_by_cmp-Decides o exact p q).1 ((eq_by_cmp-Decides os exact_s p q).0 e))

  has_same : (xs : List K) (q : K) → has R xs q ≡ has S xs q
  has_same xs q = same_test (has R xs q) (has S xs q)
      (λ e. has_there S os exact_s xs q (there R o exact xs q e))
      (λ e. has_there R o exact xs q (there S os exact_s xs q e))

  -- the items in the one order are those in the other
  pub has-in_other : (xs : List K) (q : K) → has S (in_order S xs) q ≡ has R xs q
  has-in_other xs q = has-in_order S os exact_s xs q ∙ sym (has_same xs q)

  pub in_order-with_item : (xs : List K) (q : K) → in_order S (with_item R xs q) ≡ with_item S (in_order S xs) q
  in_order-with_item xs q =
      same_list S os exact_s (in_order S (with_item R xs q)) (with_item S (in_order S xs) q)
      (in_order-ascends S os exact_s (with_item R xs q)) (sorted-with_item S os (in_order S xs) q (in_order-ascends S os exact_s xs))
      (λ p. has-in_other (with_item R xs q) p ∙ has-with_item R o exact xs q p
      ∙ ap (λ b. b || has R xs p) (same_eq p q)
      ∙ ap (λ b. eq_by_cmp S p q || b) (sym (has-in_other xs p))
      ∙ sym (has-with_item S os exact_s (in_order S xs) q p))

  pub in_order-without_item : (xs : List K) (q : K) → in_order S (without_item R xs q) ≡ without_item S (in_order S xs) q
  in_order-without_item xs q =
      same_list S os exact_s (in_order S (without_item R xs q)) (without_item S (in_order S xs) q)
      (in_order-ascends S os exact_s (without_item R xs q))
      (IsStrictlySortedBy-filter S (λ x. not (is_eq (S x q))) (in_order S xs) (in_order-ascends S os exact_s xs))
      (λ p. has-in_other (without_item R xs q) p ∙ has-without_item R o exact xs q p
      ∙ ap (λ b. has R xs p && not b) (same_eq p q)
      ∙ ap (λ b. b && not (eq_by_cmp S p q)) (sym (has-in_other xs p))
      ∙ sym (has-without_item S os exact_s (in_order S xs) q p))

  pub into_order : (xs : List K) (q : K) → Contains xs q → Contains (in_order S xs) q
  into_order xs q c = there S os exact_s (in_order S xs) q (has-in_order S os exact_s xs q ∙ has_there S os exact_s xs q c)

  pub out_of_order : (xs : List K) (q : K) → Contains (in_order S xs) q → Contains xs q
  out_of_order xs q c = there S os exact_s xs q (sym (has-in_order S os exact_s xs q) ∙ has_there S os exact_s (in_order S xs) q c)
