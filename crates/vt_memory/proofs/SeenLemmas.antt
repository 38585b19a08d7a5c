-- What is found along a chain, as a contract of a memory sees it.
use Rattle.std.proofs.Common.{◌≡◌, ℕ, ◌<◌, length, get_or, map, Bool, true, false, not, Option, Some, None, Result, Ok, Err, Bor, List, [], refl, sym, ap, ◌∙◌, subst, arith}
use mathlib.Core.Bool.{true≢false}
use Rattle.std.specs.Prelude.{IfOk, OnOk, IfSome, IfNone}
use Rattle.std.specs.List.{filter, find}
use Rattle.std.specs.Option.{option_copied}
use Rattle.std.proofs.lemmas.List.{length-map, get_or-map}
use Rattle.slab.specs.Slab.{Slab}
use Rattle.vt_sorted.proofs.AscendingLemmas.{all_at}
use Rattle.vt_base.specs.Rows.{has_row, IsSetOf}
use Rattle.vt_base.specs.declared.value.Value.{Value}
use Rattle.vt_memory.specs.Keyed.{Keyed, has_values, columns_at, bucket_of}
use Rattle.vt_memory.specs.Inside.Chains.{Chained}
use Rattle.vt_memory.specs.Inside.Numbers.{number_in}
use Rattle.vt_memory.specs.Inside.Indexed.{rows_of, IsIndexed, IsSound, found_by}
use Rattle.vt_memory.specs.declared.index.Index.{Index}
use Rattle.vt_memory.proofs.BucketLemmas.{has-found_by, set_is_bucket, length-found_by, length-found_by_kept, found_stands, none_stands}

-- ---- clauses on a result

pub if_ok : {A E : Type 0} (P Q : A → Type 0) (r : Result A E) → ((a : A) → P a → Q a) → IfOk r P → IfOk r Q
if_ok P Q (Ok a) f p = f a p
if_ok P Q (Err e) f p = tt

pub on_ok : {A E : Type 0} (P : Type 0) (r : Result A E) → P → OnOk r P
on_ok P (Ok a) p = p
on_ok P (Err e) p = tt

pub if_some : {A : Type 0} (P : A → Type 0) (o : Option (Bor A)) → ((a : A) → option_copied o ≡ Some a → P a) → IfSome o (λ r. P r.now)
if_some P None f = tt
if_some P (Some r) f = f r.now refl

pub if_none : {A : Type 0} (P : Type 0) (o : Option (Bor A)) → (option_copied o ≡ None → P) → IfNone o P
if_none P None f = f refl
if_none P (Some r) f = tt

pub not_true : (b : Bool) → not b ≡ true → b ≡ false
not_true true e = absurd (true≢false (sym e))
not_true false e = refl

pub not_false : (b : Bool) → not b ≡ false → b ≡ true
not_false true e = refl
not_false false e = absurd (true≢false e)

-- ---- a bucket

module _ (slab : Slab (List Value)) (whole : Chained) (indexes : List Index) (seen : Keyed) (key : ℕ) (index : Index) (values : List Value)
    (sound : IsSound slab whole indexes) (rows_are : rows_of slab ≡ seen.rows) (keys_are : map (λ (i : Index). i.columns) indexes ≡ seen.keys)
    (at : index ≡ get_or indexes key index) (inside : key < length seen.keys) (size : length (columns_at seen.keys key) ≡ length values) where
  within : key < length indexes
  within = omega (arith, inside, ap length keys_are, length-map indexes (λ (i : Index). i.columns))

  columns_is : columns_at seen.keys key ≡ index.columns
  columns_is =
      ap (λ keys. get_or keys key []) (sym keys_are)
      ∙ get_or-map (λ (i : Index). i.columns) indexes key index [] within
      ∙ ap (λ (i : Index). i.columns) (sym at)

  indexed : IsIndexed (number_in index.columns) slab index.chains
  indexed =
      let P : Index → Type 0 = λ i. IsIndexed (number_in i.columns) slab i.chains in
      subst P (sym at) (all_at P indexes key index sound.by_key within)

  fits : length index.columns ≡ length values
  fits = ap length (sym columns_is) ∙ size

  bucket_is : filter (has_values index.columns values) (rows_of slab) ≡ bucket_of seen key values
  bucket_is = ap (λ columns. filter (has_values columns values) (rows_of slab)) (sym columns_is) ∙ ap (filter (has_values (columns_at seen.keys key) values)) rows_are

  pub has-bucket_of : (q : List Value) → has_row (found_by slab index values) q ≡ has_row (bucket_of seen key values) q
  has-bucket_of q = has-found_by slab index values sound.alone indexed fits q ∙ ap (λ rows. has_row rows q) bucket_is

  pub set-bucket_of : (found set : List (List Value)) → found ≡ found_by slab index values → IsSetOf found set → set ≡ bucket_of seen key values
  set-bucket_of found set is s = set_is_bucket slab index values sound.alone indexed fits set (subst (λ xs. IsSetOf xs set) is s) ∙ bucket_is

  pub length-bucket_of : length (found_by slab index values) ≡ length (bucket_of seen key values)
  length-bucket_of = length-found_by slab index values sound.alone indexed fits ∙ ap length bucket_is

  pub length-bucket_of_kept : (p : List Value → Bool) → length (filter p (found_by slab index values)) ≡ length (filter p (bucket_of seen key values))
  length-bucket_of_kept p = length-found_by_kept slab index values sound.alone indexed fits p ∙ ap (λ rows. length (filter p rows)) bucket_is

  -- the first row that isn't given
  module _ (given : List (List Value)) (o : Option (Bor (List Value))) (is : option_copied o ≡ find (λ row. not (has_row given row)) (found_by slab index values)) where
    pub first_stands : IfSome o (λ row. has_row (bucket_of seen key values) row.now ≡ true)
    first_stands = if_some (λ row. has_row (bucket_of seen key values) row ≡ true) o
        (λ row e. sym (has-bucket_of row) ∙ (found_stands (λ r. not (has_row given r)) (found_by slab index values) row (sym is ∙ e)).0)

    pub first_is_beyond : IfSome o (λ row. has_row given row.now ≡ false)
    first_is_beyond = if_some (λ row. has_row given row ≡ false) o
        (λ row e. not_true (has_row given row) (found_stands (λ r. not (has_row given r)) (found_by slab index values) row (sym is ∙ e)).1)

    pub none_is_beyond : IfNone o ((row : List Value) → has_row (bucket_of seen key values) row ≡ true → has_row given row ≡ true)
    none_is_beyond = if_none ((row : List Value) → has_row (bucket_of seen key values) row ≡ true → has_row given row ≡ true) o
        (λ e row h. not_false (has_row given row) (none_stands (λ r. not (has_row given r)) (found_by slab index values) row (sym is ∙ e) (has-bucket_of row ∙ h)))
