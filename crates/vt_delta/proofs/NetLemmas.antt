-- A net delta stays net while rows come and go one at a time.
use Rattle.std.proofs.Common.{◌≡◌, Bool, true, false, not, ◌&&◌, ◌||◌, List, [], ◌∷◌, refl, sym, ap, ◌∙◌}
use Rattle.std.specs.Prelude.{cond, fold}
use Rattle.std.specs.Ordering.{eq_by_cmp}
use Rattle.vt_sorted.specs.Ascending.{with_item, without_item}
use Rattle.vt_base.specs.Order.{tuple_cmp}
use Rattle.vt_base.specs.Rows.{Ascends, has_row}
use Rattle.vt_delta.specs.Changes.{without, net, after_coming, after_going}
use Rattle.vt_base.specs.Inside.OrderLaws.{IsTotalOrder-tuple_cmp}
use Rattle.vt_base.specs.declared.value.Value.{Value}
use Rattle.vt_base.proofs.OrderLemmas.{exact-tuple_cmp}
use Rattle.vt_base.proofs.RowsLemmas.{same_list}
use Rattle.vt_delta.proofs.DeltaLemmas.{same_row, has-without, has-with_item, has-without_item, Ascends-without, Ascends-with_item, Ascends-without_item}

same_rows : (xs ys : List (List Value)) → Ascends xs → Ascends ys → ((q : List Value) → has_row xs q ≡ has_row ys q) → xs ≡ ys
same_rows xs ys rise rise_too same = same_list tuple_cmp IsTotalOrder-tuple_cmp exact-tuple_cmp xs ys rise rise_too same

-- a row that is another one stands where that one does
as_it : (rows : List (List Value)) (row q : List Value) (b : Bool) → has_row rows row ≡ b → eq_by_cmp tuple_cmp q row ≡ true → has_row rows q ≡ b
as_it rows row q b there same = ap (λ r. has_row rows r) (same_row q row same) ∙ there

-- ---- a row among those that the first list lacks, and those that the second lacks

module _ (before now : List (List Value)) (row : List Value) (rise : Ascends before) (rise_too : Ascends now) where
  -- the row comes, and stood before
  module _ (before_too : has_row before row ≡ true) where
    added_back : without before now ≡ without before (with_item tuple_cmp now row)
    added_back = same_rows _ _ (Ascends-without before now rise_too) (Ascends-without before (with_item tuple_cmp now row) (Ascends-with_item now row rise_too))
        (λ q. has-without before now q
        ∙ told (eq_by_cmp tuple_cmp q row) (has_row now q) (has_row before q) (as_it before row q true before_too)
        ∙ sym (has-without before (with_item tuple_cmp now row) q ∙ ap (λ b. b && not (has_row before q)) (has-with_item now row q)))
      where
        told : (s n b : Bool) → (s ≡ true → b ≡ true) → (n && not b) ≡ ((s || n) && not b)
        told true true b is = refl
        told true false b is = rw (is refl) refl
        told false n b is = refl

    removed_back : without_item tuple_cmp (without now before) row ≡ without (with_item tuple_cmp now row) before
    removed_back = same_rows _ _ (Ascends-without_item (without now before) row (Ascends-without now before rise)) (Ascends-without (with_item tuple_cmp now row) before rise)
        (λ q. has-without_item (without now before) row q
        ∙ ap (λ b. b && not (eq_by_cmp tuple_cmp q row)) (has-without now before q)
        ∙ told (eq_by_cmp tuple_cmp q row) (has_row now q) (has_row before q)
        ∙ sym (has-without (with_item tuple_cmp now row) before q ∙ ap (λ b. has_row before q && not b) (has-with_item now row q)))
      where
        told : (s n b : Bool) → ((b && not n) && not s) ≡ (b && not (s || n))
        told true true true = refl
        told true false true = refl
        told false true true = refl
        told false false true = refl
        told s n false = refl

  -- the row comes, and did not stand before
  module _ (not_before : has_row before row ≡ false) where
    added_anew : with_item tuple_cmp (without before now) row ≡ without before (with_item tuple_cmp now row)
    added_anew = same_rows _ _ (Ascends-with_item (without before now) row (Ascends-without before now rise_too)) (Ascends-without before (with_item tuple_cmp now row) (Ascends-with_item now row rise_too))
        (λ q. has-with_item (without before now) row q
        ∙ ap (λ b. eq_by_cmp tuple_cmp q row || b) (has-without before now q)
        ∙ told (eq_by_cmp tuple_cmp q row) (has_row now q) (has_row before q) (as_it before row q false not_before)
        ∙ sym (has-without before (with_item tuple_cmp now row) q ∙ ap (λ b. b && not (has_row before q)) (has-with_item now row q)))
      where
        told : (s n b : Bool) → (s ≡ true → b ≡ false) → (s || (n && not b)) ≡ ((s || n) && not b)
        told true n b is = rw (is refl) refl
        told false n b is = refl

    removed_still : without now before ≡ without (with_item tuple_cmp now row) before
    removed_still = same_rows _ _ (Ascends-without now before rise) (Ascends-without (with_item tuple_cmp now row) before rise)
        (λ q. has-without now before q
        ∙ told (eq_by_cmp tuple_cmp q row) (has_row now q) (has_row before q) (as_it before row q false not_before)
        ∙ sym (has-without (with_item tuple_cmp now row) before q ∙ ap (λ b. has_row before q && not b) (has-with_item now row q)))
      where
        told : (s n b : Bool) → (s ≡ true → b ≡ false) → (b && not n) ≡ (b && not (s || n))
        told true n b is = rw (is refl) refl
        told false n b is = refl

    -- the row goes, and did not stand before
    added_no_more : without_item tuple_cmp (without before now) row ≡ without before (without_item tuple_cmp now row)
    added_no_more = same_rows _ _ (Ascends-without_item (without before now) row (Ascends-without before now rise_too)) (Ascends-without before (without_item tuple_cmp now row) (Ascends-without_item now row rise_too))
        (λ q. has-without_item (without before now) row q
        ∙ ap (λ b. b && not (eq_by_cmp tuple_cmp q row)) (has-without before now q)
        ∙ told (eq_by_cmp tuple_cmp q row) (has_row now q) (has_row before q)
        ∙ sym (has-without before (without_item tuple_cmp now row) q ∙ ap (λ b. b && not (has_row before q)) (has-without_item now row q)))
      where
        told : (s n b : Bool) → ((n && not b) && not s) ≡ ((n && not s) && not b)
        told true true true = refl
        told true true false = refl
        told false true true = refl
        told false true false = refl
        told s false b = refl

    removed_as_it_was : without now before ≡ without (without_item tuple_cmp now row) before
    removed_as_it_was = same_rows _ _ (Ascends-without now before rise) (Ascends-without (without_item tuple_cmp now row) before rise)
        (λ q. has-without now before q
        ∙ told (eq_by_cmp tuple_cmp q row) (has_row now q) (has_row before q) (as_it before row q false not_before)
        ∙ sym (has-without (without_item tuple_cmp now row) before q ∙ ap (λ b. has_row before q && not b) (has-without_item now row q)))
      where
        told : (s n b : Bool) → (s ≡ true → b ≡ false) → (b && not n) ≡ (b && not (n && not s))
        told true n b is = rw (is refl) refl
        told false true b is = refl
        told false false b is = refl

  -- the row goes, and stood before
  module _ (before_too : has_row before row ≡ true) where
    added_as_it_was : without before now ≡ without before (without_item tuple_cmp now row)
    added_as_it_was = same_rows _ _ (Ascends-without before now rise_too) (Ascends-without before (without_item tuple_cmp now row) (Ascends-without_item now row rise_too))
        (λ q. has-without before now q
        ∙ told (eq_by_cmp tuple_cmp q row) (has_row now q) (has_row before q) (as_it before row q true before_too)
        ∙ sym (has-without before (without_item tuple_cmp now row) q ∙ ap (λ b. b && not (has_row before q)) (has-without_item now row q)))
      where
        told : (s n b : Bool) → (s ≡ true → b ≡ true) → (n && not b) ≡ ((n && not s) && not b)
        told true true b is = rw (is refl) refl
        told true false b is = refl
        told false true b is = refl
        told false false b is = refl

    removed_anew : with_item tuple_cmp (without now before) row ≡ without (without_item tuple_cmp now row) before
    removed_anew = same_rows _ _ (Ascends-with_item (without now before) row (Ascends-without now before rise)) (Ascends-without (without_item tuple_cmp now row) before rise)
        (λ q. has-with_item (without now before) row q
        ∙ ap (λ b. eq_by_cmp tuple_cmp q row || b) (has-without now before q)
        ∙ told (eq_by_cmp tuple_cmp q row) (has_row now q) (has_row before q) (as_it before row q true before_too)
        ∙ sym (has-without (without_item tuple_cmp now row) before q ∙ ap (λ b. has_row before q && not b) (has-without_item now row q)))
      where
        told : (s n b : Bool) → (s ≡ true → b ≡ true) → (s || (b && not n)) ≡ (b && not (n && not s))
        told true true b is = rw (is refl) refl
        told true false b is = rw (is refl) refl
        told false true b is = refl
        told false false b is = refl

  -- ---- the two laws

  pub after_coming-net : has_row now row ≡ false → after_coming (net before now) row ≡ net before (with_item tuple_cmp now row)
  after_coming-net absent =
      rw (has-without now before row ∙ ap (λ b. has_row before row && not b) absent)
      (elim (has_row before row) as (λ b. has_row before row ≡ b →
      cond (b && true)
      (record { added = without before now; removed = without_item tuple_cmp (without now before) row })
      (record { added = with_item tuple_cmp (without before now) row; removed = without now before })
      ≡ net before (with_item tuple_cmp now row)) [
        | true ↦ λ e. λ i. record { added = added_back e i; removed = removed_back e i }
        | false ↦ λ e. λ i. record { added = added_anew e i; removed = removed_still e i }
      ] refl)

  pub after_going-net : has_row now row ≡ true → after_going (net before now) row ≡ net before (without_item tuple_cmp now row)
  after_going-net there =
      rw (has-without before now row ∙ ap (λ b. b && not (has_row before row)) there)
      (elim (has_row before row) as (λ b. has_row before row ≡ b →
      cond (not b)
      (record { added = without_item tuple_cmp (without before now) row; removed = without now before })
      (record { added = without before now; removed = with_item tuple_cmp (without now before) row })
      ≡ net before (without_item tuple_cmp now row)) [
        | true ↦ λ e. λ i. record { added = added_as_it_was e i; removed = removed_anew e i }
        | false ↦ λ e. λ i. record { added = added_no_more e i; removed = removed_as_it_was e i }
      ] refl)

-- ---- rows taken out one after another

pub removed_all : (gone rows : List (List Value)) → fold (without_item tuple_cmp) rows gone ≡ without gone rows
removed_all [] rows = sym (all_kept rows)
  where
    all_kept : (rows : List (List Value)) → without [] rows ≡ rows
    all_kept [] = refl
    all_kept (x ∷ rows) = ap (λ xs. x ∷ xs) (all_kept rows)
removed_all (q ∷ gone) rows = removed_all gone (without_item tuple_cmp rows q) ∙ both rows
  where
    both : (rows : List (List Value)) → without gone (without_item tuple_cmp rows q) ≡ without (q ∷ gone) rows
    both [] = refl
    both (x ∷ rows) =
        elim (eq_by_cmp tuple_cmp x q) as (λ b. without gone (cond (not b) (x ∷ without_item tuple_cmp rows q) (without_item tuple_cmp rows q)) ≡ cond (not (b || has_row gone x)) (x ∷ without (q ∷ gone) rows) (without (q ∷ gone) rows)) [
          | true ↦ both rows
          | false ↦ ap (λ xs. cond (not (has_row gone x)) (x ∷ xs) xs) (both rows)
        ]
