-- An item's place in a list in pieces is its place in one of them.
use Rattle.std.proofs.Common.{◌≡◌, ℕ, suc, ◌<◌, length, get_or, set, take, drop, List, [], ◌++◌, sym, ap, ◌∙◌, arith, subst}
use Rattle.std.specs.declared.cmp.Ordering.{Ordering}
use Rattle.std.specs.List.{insert, remove, find}
use Rattle.std.specs.List.Sorted.{IsStrictlySortedBy}
use Rattle.std.specs.Ordering.{eq_by_cmp}
use Rattle.std.specs.Cmp.{IsTotalOrder}
use Rattle.std.proofs.lemmas.List.{set-get_or}
use Rattle.std.proofs.lemmas.List.Edits.{length-insert, length-remove}
use Rattle.vt_sorted.specs.Ascending.{has, with_item, without_item, items_from}
use Rattle.vt_sorted.specs.Inside.Places.{StandsAt, GoesAt}
use Rattle.vt_sorted.specs.Inside.Pieces.{joined, IsPlace, StandsIn, GoesIn}
use Rattle.vt_sorted.proofs.AscendingLemmas.{sorted_left, sorted_right, with_item-between, without_item-between, items_from-between, has-between, find-between, sorted-with_item, sorted-without_item}
use Rattle.vt_sorted.proofs.PieceLemmas.{joined_around, joined-set, length-joined-set}

module _ {T : Type 0} (R : T → T → Ordering) (o : IsTotalOrder R) where
  pub with_item-place : (cs : List (List T)) (q : T) (j : ℕ) → IsPlace R cs q j → with_item R (joined cs) q ≡ joined (set cs j (with_item R (get_or cs j []) q))
  with_item-place cs q j p =
      ap (λ xs. with_item R xs q) (joined_around cs j p.in_range)
      ∙ with_item-between R o (joined (take j cs)) (get_or cs j []) (joined (drop (suc j) cs)) q p.below p.above
      ∙ sym (joined-set cs j (with_item R (get_or cs j []) q) p.in_range)

  pub without_item-place : (cs : List (List T)) (q : T) (j : ℕ) → IsPlace R cs q j → without_item R (joined cs) q ≡ joined (set cs j (without_item R (get_or cs j []) q))
  without_item-place cs q j p =
      ap (λ xs. without_item R xs q) (joined_around cs j p.in_range)
      ∙ without_item-between R o (joined (take j cs)) (get_or cs j []) (joined (drop (suc j) cs)) q p.below p.above
      ∙ sym (joined-set cs j (without_item R (get_or cs j []) q) p.in_range)

  pub items_from-place : (cs : List (List T)) (q : T) (j : ℕ) → IsPlace R cs q j → items_from R (joined cs) q ≡ items_from R (get_or cs j []) q ++ joined (drop (suc j) cs)
  items_from-place cs q j p =
      ap (λ xs. items_from R xs q) (joined_around cs j p.in_range)
      ∙ items_from-between R o (joined (take j cs)) (get_or cs j []) (joined (drop (suc j) cs)) q p.below p.above

  pub has-place : (cs : List (List T)) (q : T) (j : ℕ) → IsPlace R cs q j → has R (joined cs) q ≡ has R (get_or cs j []) q
  has-place cs q j p =
      ap (λ xs. has R xs q) (joined_around cs j p.in_range)
      ∙ has-between R o (joined (take j cs)) (get_or cs j []) (joined (drop (suc j) cs)) q p.below p.above

  pub find-place : (cs : List (List T)) (q : T) (j : ℕ) → IsPlace R cs q j → find (eq_by_cmp R q) (joined cs) ≡ find (eq_by_cmp R q) (get_or cs j [])
  find-place cs q j p =
      ap (find (eq_by_cmp R q)) (joined_around cs j p.in_range)
      ∙ find-between R o (joined (take j cs)) (get_or cs j []) (joined (drop (suc j) cs)) q p.below p.above

  -- a piece of an ascending list ascends
  pub piece_ascends : (cs : List (List T)) (j : ℕ) → IsStrictlySortedBy R (joined cs) → j < length cs → IsStrictlySortedBy R (get_or cs j [])
  piece_ascends cs j s l =
      sorted_left R (get_or cs j []) (joined (drop (suc j) cs))
      (sorted_right R (joined (take j cs)) (get_or cs j [] ++ joined (drop (suc j) cs)) (subst (IsStrictlySortedBy R) (joined_around cs j l) s))

  -- ---- where an item stands, or goes, by what a piece says

  pub stands_in : (cs : List (List T)) (q : T) (j at : ℕ) → IsStrictlySortedBy R (joined cs) → IsPlace R cs q j → StandsAt R (get_or cs j []) q at → StandsIn R cs q j at
  stands_in cs q j at sorted p s =
      let taken : joined (set cs j (remove (get_or cs j []) at)) ≡ without_item R (joined cs) q = ap (λ c. joined (set cs j c)) s.taken ∙ sym (without_item-place cs q j p) in
      record {
        in_range = p.in_range;
        place = s.in_range;
        stands = has-place cs q j p ∙ s.stands;
        found = find-place cs q j p ∙ s.found;
        added = with_item-place cs q j p ∙ ap (λ c. joined (set cs j c)) s.added ∙ ap joined (set-get_or cs j []);
        taken = taken;
        shorter =
            let h = length-joined-set cs j (remove (get_or cs j []) at) p.in_range in
            let n = length-remove (get_or cs j []) at s.in_range in
            omega arith;
        ascends = subst (IsStrictlySortedBy R) (sym taken) (sorted-without_item R o (joined cs) q sorted);
        from = items_from-place cs q j p ∙ ap (λ c. c ++ joined (drop (suc j) cs)) s.from;
      }

  pub goes_in : (cs : List (List T)) (q : T) (j at : ℕ) → IsStrictlySortedBy R (joined cs) → IsPlace R cs q j → GoesAt R (get_or cs j []) q at → GoesIn R cs q j at
  goes_in cs q j at sorted p s =
      let added : joined (set cs j (insert (get_or cs j []) at q)) ≡ with_item R (joined cs) q = ap (λ c. joined (set cs j c)) s.added ∙ sym (with_item-place cs q j p) in
      record {
        in_range = p.in_range;
        place = s.in_range;
        absent = has-place cs q j p ∙ s.absent;
        found = find-place cs q j p ∙ s.found;
        added = added;
        taken = without_item-place cs q j p ∙ ap (λ c. joined (set cs j c)) s.taken ∙ ap joined (set-get_or cs j []);
        longer =
            let h = length-joined-set cs j (insert (get_or cs j []) at q) p.in_range in
            let n = length-insert (get_or cs j []) at q s.in_range in
            omega arith;
        ascends = subst (IsStrictlySortedBy R) (sym added) (sorted-with_item R o (joined cs) q sorted);
        from = items_from-place cs q j p ∙ ap (λ c. c ++ joined (drop (suc j) cs)) s.from;
      }
