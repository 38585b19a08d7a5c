-- A binary search ends where the item stands, or where it goes.
use Rattle.std.proofs.Common.{◌≡◌, ℕ, zero, suc, ◌<◌, ◌≤◌, length, take, drop, get_or, slice_get, true, false, not, cond, ◌||◌, Some, Result, Ok, Err, IfOk, IfErr, ◌+◌, List, [], ◌∷◌, ◌++◌, sym, ap, ◌∙◌, arith}
use Rattle.std.specs.declared.cmp.Ordering.{Ordering}
use Rattle.std.specs.declared.cmp.Ordering.TheVariants.{Less, Equal, Greater}
use Rattle.std.specs.List.{HoldsAt, AllWithin, insert, remove, find}
use Rattle.std.specs.List.Sorted.{IsStrictlySortedBy, IsNonDecreasingBy, IsSearchInRange, IsBinarySearchResult}
use Rattle.std.specs.Ordering.{eq_by_cmp, is_eq, is_lt, ordering_index}
use Rattle.std.specs.Cmp.{IsTotalOrder}
use Rattle.std.proofs.lemmas.Cmp.{tied_back, alike_right}
use Rattle.std.proofs.lemmas.List.{take-append-drop}
use Rattle.std.proofs.lemmas.List.Sorted.{searchable_from_sorted}
use Rattle.std.proofs.lemmas.Map.Keys.{Less-from_sorted}
use Rattle.vt_sorted.specs.Ascending.{has, items_below, items_from, with_item, without_item}
use Rattle.vt_sorted.specs.Inside.Places.{StandsAt, GoesAt}
use Rattle.vt_sorted.specs.Inside.Pieces.{AllBelow, AllAbove}
use Rattle.vt_sorted.proofs.AscendingLemmas.{head_below, tail_sorted, greater_back, less_back, above_all, all_at, has-between, find-between, with_item-between, without_item-between, items_from-between, without_item-above, items_from-above, sorted-with_item, sorted-without_item}

module _ {K : Type 0} (R : K → K → Ordering) (o : IsTotalOrder R) where
  -- what is above an item is above all that is equal to it
  above_tied : (x q : K) (ys : List K) → R x q ≡ Equal → AllAbove R ys x → AllAbove R ys q
  above_tied x q [] e a = tt
  above_tied x q (y ∷ ys) e a = (sym (o.congr x q y e) ∙ a.0, above_tied x q ys e a.1)

  at_place : (xs : List K) (q : K) (i : ℕ) → IsStrictlySortedBy R xs → i < length xs → HoldsAt (λ y. R y q ≡ Equal) xs i → record { stands : has R xs q ≡ true; found : find (eq_by_cmp R q) xs ≡ slice_get xs i; taken : remove xs i ≡ without_item R xs q; from : items_from R xs q ≡ drop i xs }
  at_place [] q i s l h = absurd (omega arith)
  at_place (x ∷ xs) q zero s l h =
      let e : R x q ≡ Equal = h x in
      let back : R q x ≡ Equal = tied_back o x q e in
      let a : AllAbove R xs q = above_tied x q xs e (head_below R x xs s) in
      record {
        stands = ap (λ r. is_eq r || has R xs q) back;
        found = ap (λ r. cond (is_eq r) (Some x) (find (eq_by_cmp R q) xs)) back;
        taken = sym (ap (λ r. cond (not (is_eq r)) (x ∷ without_item R xs q) (without_item R xs q)) e ∙ without_item-above R o xs q a);
        from = ap (λ r. cond (not (is_lt r)) (x ∷ items_from R xs q) (items_from R xs q)) e ∙ ap (λ zs. x ∷ zs) (items_from-above R o xs q a);
      }
  at_place (x ∷ xs) q (suc i) s l h =
      let in_tail : i < length xs = omega arith in
      let deep = at_place xs q i (tail_sorted R x xs s) in_tail h in
      let less : R x q ≡ Less = sym (alike_right o (get_or xs i x) q x (h x)) ∙ all_at (λ y. R x y ≡ Less) xs i x (head_below R x xs s) in_tail in
      let back : R q x ≡ Greater = greater_back R o x q less in
      record {
        stands = ap (λ r. is_eq r || has R xs q) back ∙ deep.stands;
        found = ap (λ r. cond (is_eq r) (Some x) (find (eq_by_cmp R q) xs)) back ∙ deep.found;
        taken = ap (λ zs. x ∷ zs) deep.taken ∙ sym (ap (λ r. cond (not (is_eq r)) (x ∷ without_item R xs q) (without_item R xs q)) less);
        from = ap (λ r. cond (not (is_lt r)) (x ∷ items_from R xs q) (items_from R xs q)) less ∙ deep.from;
      }

  at_gap : (xs : List K) (q : K) (i : ℕ) → IsStrictlySortedBy R xs → i ≤ length xs → AllWithin (λ y. R y q ≡ Less) xs 0 i → AllWithin (λ y. R y q ≡ Greater) xs i (length xs) → record { below : AllBelow R (take i xs) q; above : AllAbove R (drop i xs) q }
  at_gap [] q zero s l low high = record { below = tt; above = tt }
  at_gap [] q (suc i) s l low high = absurd (omega arith)
  at_gap (x ∷ xs) q zero s l low high =
      let g : R x q ≡ Greater = high 0 x (omega arith) (omega arith) in
      record { below = tt; above = above_all R o q x xs (less_back R o x q g) s }
  at_gap (x ∷ xs) q (suc i) s l low high =
      let deep = at_gap xs q i (tail_sorted R x xs s) (omega arith) (λ k d _ lt. low (suc k) d (omega arith) (omega arith)) (λ k d le lt. high (suc k) d (omega arith) (omega arith)) in
      record { below = (low 0 x (omega arith) (omega arith), deep.below); above = deep.above }

  rises : (xs : List K) (q : K) → IsStrictlySortedBy R xs → IsNonDecreasingBy (λ y. ordering_index (R y q)) xs
  rises xs q s = searchable_from_sorted o (λ y. y) xs q (λ k d _ lt. ap is_lt (greater_back R o _ _ (Less-from_sorted R xs k (k + 1) d s (omega arith) lt)))

  pub stands_at : (xs : List K) (q : K) (r : Result ℕ ℕ) → IsStrictlySortedBy R xs → IsSearchInRange r (length xs) → IsBinarySearchResult (λ y. R y q) xs r → IfOk r (StandsAt R xs q)
  stands_at xs q (Err i) s l h = tt
  stands_at xs q (Ok i) s l h =
      let facts = at_place xs q i s l h in
      record {
        in_range = l;
        stands = facts.stands;
        found = facts.found;
        added = ap (λ b. cond b xs (items_below R xs q ++ q ∷ items_from R xs q)) facts.stands;
        taken = facts.taken;
        ascends = rw facts.taken (sorted-without_item R o xs q s);
        from = facts.from;
      }

  pub goes_at : (xs : List K) (q : K) (r : Result ℕ ℕ) → IsStrictlySortedBy R xs → IsSearchInRange r (length xs) → IsBinarySearchResult (λ y. R y q) xs r → IfErr r (GoesAt R xs q)
  goes_at xs q (Ok i) s l h = tt
  goes_at xs q (Err i) s l h =
      let split = h (rises xs q s) in
      let gap = at_gap xs q i s l split.0 split.1 in
      let whole : take i xs ++ ([] ++ drop i xs) ≡ xs = take-append-drop i xs in
      let absent : has R xs q ≡ false = ap (λ zs. has R zs q) (sym whole) ∙ has-between R o (take i xs) [] (drop i xs) q gap.below gap.above in
      let added : insert xs i q ≡ with_item R xs q = sym (ap (λ zs. with_item R zs q) (sym whole) ∙ with_item-between R o (take i xs) [] (drop i xs) q gap.below gap.above) in
      record {
        in_range = l;
        absent = absent;
        found = ap (find (eq_by_cmp R q)) (sym whole) ∙ find-between R o (take i xs) [] (drop i xs) q gap.below gap.above;
        added = added;
        ascends = rw added (sorted-with_item R o xs q s);
        taken = ap (λ zs. without_item R zs q) (sym whole) ∙ without_item-between R o (take i xs) [] (drop i xs) q gap.below gap.above ∙ whole;
        from = ap (λ zs. items_from R zs q) (sym whole) ∙ items_from-between R o (take i xs) [] (drop i xs) q gap.below gap.above;
      }
