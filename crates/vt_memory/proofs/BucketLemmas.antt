-- Buckets: what is found along a chain is the rows of a set that have given values.
use Rattle.std.proofs.Common.{◌≡◌, ℕ, ◌<◌, ◌≤◌, length, Bool, true, false, ◌&&◌, ◌||◌, cond, Option, Some, None, List, [], ◌∷◌, refl, sym, ap, ◌∙◌, subst, inl, inr, arith}
use mathlib.Core.Bool.{true≢false}
use Rattle.std.specs.List.{AllByRecursion, IsDistinct, filter, find, fold, slice_get}
use Rattle.std.specs.Ordering.{eq_by_cmp}
use Rattle.std.specs.Cmp.{Equal-is}
use Rattle.std.proofs.lemmas.Bool.{cases_eq}
use Rattle.std.proofs.lemmas.Cmp.{eq_by_cmp_equiv}
use Rattle.std.proofs.lemmas.List.Kept.{IsStrictlySortedBy-filter}
use Rattle.std.proofs.lemmas.Map.Keys.{IsDistinct-from_sorted, IsDistinct-cons, IsDistinct-head, IsDistinct-tail}
use Rattle.std.proofs.lemmas.Map.Made.{is_member-filter, length-from_same_keys}
use Rattle.slab.specs.Slab.{Slab, get}
use Rattle.vt_base.specs.Order.{value_cmp, tuple_cmp}
use Rattle.vt_base.specs.Rows.{Ascends, has_row, IsSetOf}
use Rattle.vt_base.specs.Inside.OrderLaws.{IsTotalOrder-tuple_cmp}
use Rattle.vt_base.specs.declared.value.Value.{Value}
use Rattle.vt_base.proofs.OrderLemmas.{exact-value_cmp}
use Rattle.vt_delta.proofs.DeltaLemmas.{same_row}
use Rattle.vt_memory.specs.Keyed.{has_value, has_values}
use Rattle.vt_memory.specs.Inside.Chains.{times, chain_at}
use Rattle.vt_memory.specs.Inside.Numbers.{with_value, with_cell, number_of, number_in}
use Rattle.vt_memory.specs.Inside.Indexed.{rows_of, IsAlone, IsIndexed, if_fits, and_row, fitting, found_by}
use Rattle.vt_memory.specs.declared.index.Index.{Index}
use Rattle.vt_memory.proofs.ChainLemmas.{times-same, times-other, times-tail}
use Rattle.vt_memory.proofs.SetLemmas.{same_truth, same_rows, itself, or_right_true, Ascends-rows_of, stands_from, stands_to}
use Rattle.vt_memory.proofs.IndexLemmas.{in_chain, once_in_chain}

-- ---- has_values

has_value_is : (v : Value) (o : Option Value) → has_value v o ≡ true → o ≡ Some v
has_value_is v None e = absurd (true≢false (sym e))
has_value_is v (Some w) e = ap Some (sym (exact-value_cmp v w ((Equal-is (value_cmp v w)).0 e)))

both_true : (a b : Bool) → (a && b) ≡ true → (a ≡ true) × (b ≡ true)
both_true true b e = (refl, e)
both_true false b e = absurd (true≢false (sym e))

-- a row with these values has their number
number_fits : (n : ℕ) (cs : List ℕ) (vs row : List Value) → length cs ≡ length vs → has_values cs vs row ≡ true → fold (λ number column. with_cell number (slice_get row column)) n cs ≡ fold with_value n vs
number_fits n [] [] row l h = refl
number_fits n [] (v ∷ vs) row l h = absurd (omega arith)
number_fits n (c ∷ cs) [] row l h = absurd (omega arith)
number_fits n (c ∷ cs) (v ∷ vs) row l h =
    let parts = both_true (has_value v (slice_get row c)) (has_values cs vs row) h in
    let cell : with_cell n (slice_get row c) ≡ with_value n v = ap (with_cell n) (has_value_is v (slice_get row c) parts.0) in
    ap (λ m. fold (λ number column. with_cell number (slice_get row column)) m cs) cell ∙ number_fits (with_value n v) cs vs row (omega arith) parts.1

-- ---- what stands among rows that are kept

pub has-filter : (p : List Value → Bool) (rows : List (List Value)) (q : List Value) → has_row (filter p rows) q ≡ (has_row rows q && p q)
has-filter p rows q = is_member-filter (eq_by_cmp_equiv IsTotalOrder-tuple_cmp) p q (λ r same. ap p (same_row q r same)) rows

-- ---- fitting

module _ (slab : Slab (List Value)) (cs : List ℕ) (vs : List Value) where
  fits_is : (o : Option (List Value)) (q : List Value) → if_fits cs vs o ≡ Some q → (o ≡ Some q) × (has_values cs vs q ≡ true)
  fits_is None q e = absurd (cc)
  fits_is (Some row) q e =
      elim (has_values cs vs row) as (λ b. has_values cs vs row ≡ b → cond b (Some row) None ≡ Some q → (Some row ≡ Some q) × (has_values cs vs q ≡ true)) [
        | true ↦ λ h f. let same : row ≡ q = cc in (f, subst (λ r. has_values cs vs r ≡ true) same h)
        | false ↦ λ _ f. absurd (cc)
      ] refl e

  fits_from : (o : Option (List Value)) (q : List Value) → o ≡ Some q → has_values cs vs q ≡ true → if_fits cs vs o ≡ Some q
  fits_from o q e h = ap (if_fits cs vs) e ∙ ap (λ b. cond b (Some q) None) h

  -- what is found stands under one of the keys
  pub fitting_to : (ks : List ℕ) (q : List Value) → has_row (fitting slab cs vs ks) q ≡ true → (k : ℕ) × (0 < times k ks) × (get slab k ≡ Some q) × (has_values cs vs q ≡ true)
  fitting_to [] q h = absurd (true≢false (sym h))
  fitting_to (k ∷ ks) q h = of (λ f. fitting_to ks q f) (if_fits cs vs (get slab k)) refl h
    where
      later : (has_row (fitting slab cs vs ks) q ≡ true → (j : ℕ) × (0 < times j ks) × (get slab j ≡ Some q) × (has_values cs vs q ≡ true))
          → has_row (fitting slab cs vs ks) q ≡ true → (j : ℕ) × (0 < times j (k ∷ ks)) × (get slab j ≡ Some q) × (has_values cs vs q ≡ true)
      later on f = let at = on f in (at.0, omega (arith, times-tail at.0 k ks, at.1), at.2, at.3)

      of : (has_row (fitting slab cs vs ks) q ≡ true → (j : ℕ) × (0 < times j ks) × (get slab j ≡ Some q) × (has_values cs vs q ≡ true))
          → (o : Option (List Value)) → if_fits cs vs (get slab k) ≡ o → has_row (and_row o (fitting slab cs vs ks)) q ≡ true → (j : ℕ) × (0 < times j (k ∷ ks)) × (get slab j ≡ Some q) × (has_values cs vs q ≡ true)
      of on None e f = later on f
      of on (Some row) e f =
          elim (eq_by_cmp tuple_cmp q row) as (λ b. eq_by_cmp tuple_cmp q row ≡ b → (b || has_row (fitting slab cs vs ks) q) ≡ true → (j : ℕ) × (0 < times j (k ∷ ks)) × (get slab j ≡ Some q) × (has_values cs vs q ≡ true)) [
            | true ↦ λ same _.
                let parts = fits_is (get slab k) q (e ∙ ap Some (sym (same_row q row same))) in
                (k, omega (arith, times-same k ks), parts.0, parts.1)
            | false ↦ λ _ g. later on g
          ] refl f

  pub fitting_from : (ks : List ℕ) (k : ℕ) (q : List Value) → 0 < times k ks → get slab k ≡ Some q → has_values cs vs q ≡ true → has_row (fitting slab cs vs ks) q ≡ true
  fitting_from [] k q some found h = absurd (omega arith)
  fitting_from (j ∷ js) k q some found h =
      elim (cases_eq k j) [
        | inl e ↦ ap (λ o. has_row (and_row o (fitting slab cs vs js)) q) (fits_from (get slab j) q (ap (get slab) (sym e) ∙ found) h) ∙ ap (λ b. b || has_row (fitting slab cs vs js) q) (itself q)
        | inr d ↦ beside (if_fits cs vs (get slab j)) (fitting_from js k q (omega (arith, times-other k j js d)) found h)
      ]
    where
      beside : (o : Option (List Value)) → has_row (fitting slab cs vs js) q ≡ true → has_row (and_row o (fitting slab cs vs js)) q ≡ true
      beside None f = f
      beside (Some row) f = or_right_true (eq_by_cmp tuple_cmp q row) (has_row (fitting slab cs vs js) q) f

  none_equal : (q : List Value) (ys : List (List Value)) → has_row ys q ≡ false → AllByRecursion (λ y. eq_by_cmp tuple_cmp q y ≡ false) ys
  none_equal q [] e = tt
  none_equal q (y ∷ ys) e =
      elim (eq_by_cmp tuple_cmp q y) as (λ b. eq_by_cmp tuple_cmp q y ≡ b → (b || has_row ys q) ≡ false → (eq_by_cmp tuple_cmp q y ≡ false) × AllByRecursion (λ z. eq_by_cmp tuple_cmp q z ≡ false) ys) [
        | true ↦ λ _ f. absurd (true≢false f)
        | false ↦ λ apart f. (apart, none_equal q ys f)
      ] refl e

  -- no row is found twice, where no key stands twice and no row under two keys
  pub fitting_distinct : (ks : List ℕ) → IsAlone slab → ((k : ℕ) → times k ks ≤ 1) → IsDistinct (eq_by_cmp tuple_cmp) (fitting slab cs vs ks)
  unfolding IsDistinct
  fitting_distinct [] alone once = tt
  fitting_distinct (k ∷ ks) alone once = of (fitting_distinct ks alone (λ j. omega (arith, once j, times-tail j k ks))) (if_fits cs vs (get slab k)) refl
    where
      absent : (q : List Value) → get slab k ≡ Some q → has_row (fitting slab cs vs ks) q ≡ false
      absent q found =
          elim (has_row (fitting slab cs vs ks) q) as (λ b. has_row (fitting slab cs vs ks) q ≡ b → b ≡ false) [
            | true ↦ λ h.
                let at = fitting_to ks q h in
                let same : at.0 ≡ k = alone at.0 k q at.2 found in
                absurd (omega (arith, at.1, ap (λ j. times j ks) same, once k, times-same k ks))
            | false ↦ λ _. refl
          ] refl

      of : IsDistinct (eq_by_cmp tuple_cmp) (fitting slab cs vs ks) → (o : Option (List Value)) → if_fits cs vs (get slab k) ≡ o → IsDistinct (eq_by_cmp tuple_cmp) (and_row o (fitting slab cs vs ks))
      of rest None e = rest
      of rest (Some q) e = IsDistinct-cons (eq_by_cmp tuple_cmp) q (fitting slab cs vs ks) (none_equal q (fitting slab cs vs ks) (absent q (fits_is (get slab k) q e).0)) rest

-- ---- found_by

module _ (slab : Slab (List Value)) (index : Index) (vs : List Value) (alone : IsAlone slab) (is : IsIndexed (number_in index.columns) slab index.chains) (size : length index.columns ≡ length vs) where
  -- what is found is what has the values
  pub has-found_by : (q : List Value) → has_row (found_by slab index vs) q ≡ has_row (filter (has_values index.columns vs) (rows_of slab)) q
  has-found_by q =
      same_truth (has_row (found_by slab index vs) q) (has_row (filter (has_values index.columns vs) (rows_of slab)) q)
      (λ h. let at = fitting_to slab index.columns vs (chain_at index.chains.chains (number_of vs)) q h in
      has-filter (has_values index.columns vs) (rows_of slab) q ∙ both (has_row (rows_of slab) q) (has_values index.columns vs q) (stands_from slab at.0 q at.2) at.3)
      (λ h. let parts = both_true (has_row (rows_of slab) q) (has_values index.columns vs q) (sym (has-filter (has_values index.columns vs) (rows_of slab) q) ∙ h) in
      let at = stands_to slab q parts.0 in
      let number : number_in index.columns q ≡ number_of vs = number_fits 11400714819323198485 index.columns vs q size parts.1 in
      let stands : times at.0 (chain_at index.chains.chains (number_of vs)) ≡ 1 = ap (λ n. times at.0 (chain_at index.chains.chains n)) (sym number) ∙ in_chain (number_in index.columns) slab index.chains is at.0 q at.1 in
      fitting_from slab index.columns vs (chain_at index.chains.chains (number_of vs)) at.0 q (omega (arith, stands)) at.1 parts.1)
    where
      both : (a b : Bool) → a ≡ true → b ≡ true → (a && b) ≡ true
      both true b e f = f
      both false b e f = absurd (true≢false (sym e))

  pub Ascends-bucket : Ascends (filter (has_values index.columns vs) (rows_of slab))
  Ascends-bucket = IsStrictlySortedBy-filter tuple_cmp (has_values index.columns vs) (rows_of slab) (Ascends-rows_of slab)

  -- its set is the bucket
  pub set_is_bucket : (set : List (List Value)) → IsSetOf (found_by slab index vs) set → set ≡ filter (has_values index.columns vs) (rows_of slab)
  set_is_bucket set s = same_rows set (filter (has_values index.columns vs) (rows_of slab)) s.ascends Ascends-bucket (λ q. s.same q ∙ has-found_by q)

  distinct : IsDistinct (eq_by_cmp tuple_cmp) (found_by slab index vs)
  distinct = fitting_distinct slab index.columns vs (chain_at index.chains.chains (number_of vs)) alone (once_in_chain (number_in index.columns) slab index.chains is (number_of vs))

  -- each row of the bucket is found once
  pub length-found_by : length (found_by slab index vs) ≡ length (filter (has_values index.columns vs) (rows_of slab))
  length-found_by =
      length-from_same_keys (eq_by_cmp_equiv IsTotalOrder-tuple_cmp) (found_by slab index vs) (filter (has_values index.columns vs) (rows_of slab))
      distinct (IsDistinct-from_sorted tuple_cmp (filter (has_values index.columns vs) (rows_of slab)) Ascends-bucket) has-found_by

  -- and so is each of those that meet a test
  pub length-found_by_kept : (p : List Value → Bool) → length (filter p (found_by slab index vs)) ≡ length (filter p (filter (has_values index.columns vs) (rows_of slab)))
  length-found_by_kept p =
      length-from_same_keys (eq_by_cmp_equiv IsTotalOrder-tuple_cmp) (filter p (found_by slab index vs)) (filter p (filter (has_values index.columns vs) (rows_of slab)))
      (distinct-filter (found_by slab index vs) distinct)
      (IsDistinct-from_sorted tuple_cmp (filter p (filter (has_values index.columns vs) (rows_of slab))) (IsStrictlySortedBy-filter tuple_cmp p (filter (has_values index.columns vs) (rows_of slab)) Ascends-bucket))
      (λ q. has-filter p (found_by slab index vs) q ∙ ap (λ b. b && p q) (has-found_by q) ∙ sym (has-filter p (filter (has_values index.columns vs) (rows_of slab)) q))
    where
      all-filter : (q : List Value) (ys : List (List Value)) → AllByRecursion (λ y. eq_by_cmp tuple_cmp q y ≡ false) ys → AllByRecursion (λ y. eq_by_cmp tuple_cmp q y ≡ false) (filter p ys)
      all-filter q [] a = tt
      all-filter q (y ∷ ys) a =
          elim (p y) as (λ b. AllByRecursion (λ z. eq_by_cmp tuple_cmp q z ≡ false) (cond b (y ∷ filter p ys) (filter p ys))) [
            | true ↦ (a.0, all-filter q ys a.1)
            | false ↦ all-filter q ys a.1
          ]

      distinct-filter : (xs : List (List Value)) → IsDistinct (eq_by_cmp tuple_cmp) xs → IsDistinct (eq_by_cmp tuple_cmp) (filter p xs)
      distinct-filter [] d = d
      distinct-filter (x ∷ xs) d =
          elim (p x) as (λ b. IsDistinct (eq_by_cmp tuple_cmp) (cond b (x ∷ filter p xs) (filter p xs))) [
            | true ↦ IsDistinct-cons (eq_by_cmp tuple_cmp) x (filter p xs) (all-filter x xs (IsDistinct-head (eq_by_cmp tuple_cmp) x xs d)) (distinct-filter xs (IsDistinct-tail (eq_by_cmp tuple_cmp) x xs d))
            | false ↦ distinct-filter xs (IsDistinct-tail (eq_by_cmp tuple_cmp) x xs d)
          ]

-- ---- the first row that meets a test

-- it stands in the list, and meets the test
pub found_stands : (p : List Value → Bool) (rows : List (List Value)) (q : List Value) → find p rows ≡ Some q → (has_row rows q ≡ true) × (p q ≡ true)
found_stands p [] q e = absurd (cc)
found_stands p (row ∷ rows) q e =
    elim (p row) as (λ b. p row ≡ b → cond b (Some row) (find p rows) ≡ Some q → (has_row (row ∷ rows) q ≡ true) × (p q ≡ true)) [
      | true ↦ λ passes f.
          let same : row ≡ q = cc in (
            ap (λ b. b || has_row rows q) (ap (λ r. eq_by_cmp tuple_cmp q r) same ∙ itself q),
            ap p (sym same) ∙ passes,
          )
      | false ↦ λ _ f.
          let later = found_stands p rows q f in
          (or_right_true (eq_by_cmp tuple_cmp q row) (has_row rows q) later.0, later.1)
    ] refl e

-- where there is none, no row of the list meets it
pub none_stands : (p : List Value → Bool) (rows : List (List Value)) (q : List Value) → find p rows ≡ None → has_row rows q ≡ true → p q ≡ false
none_stands p [] q e h = absurd (true≢false (sym h))
none_stands p (row ∷ rows) q e h =
    elim (p row) as (λ b. p row ≡ b → cond b (Some row) (find p rows) ≡ None → p q ≡ false) [
      | true ↦ λ _ f. absurd (cc)
      | false ↦ λ fails f.
          elim (eq_by_cmp tuple_cmp q row) as (λ b. eq_by_cmp tuple_cmp q row ≡ b → (b || has_row rows q) ≡ true → p q ≡ false) [
            | true ↦ λ same _. ap p (same_row q row same) ∙ fails
            | false ↦ λ _ g. none_stands p rows q f g
          ] refl h
    ] refl e
