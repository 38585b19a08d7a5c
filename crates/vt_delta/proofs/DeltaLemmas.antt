-- Net deltas: they fit the rows before, and applied to these they give the rows after.
use Rattle.std.proofs.Common.{◌≡◌, ◌<◌, ℕ, zero, suc, length, Bool, true, false, not, ◌&&◌, ◌||◌, List, [], ◌∷◌, Option, Some, None, refl, sym, ap, subst, ◌∙◌, arith}
use Rattle.std.specs.Prelude.{◌++◌, cond, filter, fold, slice_get}
use Rattle.std.specs.Ordering.{eq_by_cmp, is_eq, is_lt}
use Rattle.std.proofs.lemmas.Cmp.{eq_by_cmp_equiv}
use Rattle.std.proofs.lemmas.List.Kept.{IsStrictlySortedBy-filter}
use Rattle.std.proofs.lemmas.Map.Made.{is_member-filter}
use Rattle.std.proofs.lemmas.List.Folds.{list_any-append}
use Rattle.vt_sorted.specs.Ascending.{with_item, without_item, items_below, items_from}
use Rattle.vt_sorted.proofs.AscendingLemmas.{sorted-with_item}
use Rattle.vt_base.specs.Order.{tuple_cmp}
use Rattle.vt_base.specs.Rows.{Ascends, has_row}
use Rattle.vt_base.specs.Base.{BaseRows}
use Rattle.vt_delta.specs.Deltas.{without, net, applied, applied_at, applied_base, change_of, Fits, AllAscend, IsNet, FitsBase, SameRows}
use Rattle.vt_delta.specs.declared.delta.Delta.{Delta}
use Rattle.vt_delta.specs.declared.delta.BaseDelta.{BaseDelta}
use Rattle.vt_base.specs.Inside.OrderLaws.{IsTotalOrder-tuple_cmp}
use Rattle.vt_base.specs.declared.value.Value.{Value}
use Rattle.vt_base.proofs.OrderLemmas.{exact-tuple_cmp, eq_by_cmp-Decides}
use Rattle.vt_base.proofs.RowsLemmas.{same_list}

-- the rows that a list has are tested by what they are
pub same_row : (a b : List Value) → eq_by_cmp tuple_cmp a b ≡ true → a ≡ b
same_row a b = (eq_by_cmp-Decides IsTotalOrder-tuple_cmp exact-tuple_cmp a b).0

-- a row stands in a list without others where it stands in the list and not among the others
pub has-without : (others rows : List (List Value)) (row : List Value) → has_row (without others rows) row ≡ (has_row rows row && not (has_row others row))
has-without others rows row =
    is_member-filter (eq_by_cmp_equiv IsTotalOrder-tuple_cmp) (λ r. not (has_row others r)) row
    (λ r same. ap (λ x. not (has_row others x)) (same_row row r same)) rows

-- ---- rows that are put in

or_twice : (a b c : Bool) → (a || (b || c)) ≡ (b || (a || c))
or_twice true true c = refl
or_twice true false c = refl
or_twice false b c = refl

or_same : (a c : Bool) → (a || (a || c)) ≡ (a || c)
or_same true c = refl
or_same false c = refl

-- what stands in a list, told by a test that goes over both parts of it
in_parts : (a b c : Bool) → ((a && c) || (b || (a && not c))) ≡ (b || a)
in_parts true true true = refl
in_parts true true false = refl
in_parts true false true = refl
in_parts true false false = refl
in_parts false true c = refl
in_parts false false c = refl

-- what stands already
stood : (rows : List (List Value)) (q row : List Value) → has_row rows q ≡ true → has_row rows row ≡ (eq_by_cmp tuple_cmp row q || has_row rows row)
stood rows q row there =
    elim (eq_by_cmp tuple_cmp row q) as (λ b. eq_by_cmp tuple_cmp row q ≡ b → has_row rows row ≡ (b || has_row rows row)) [
      | true ↦ λ same. rw (same_row row q same) there
      | false ↦ λ apart. refl
    ] refl

has-kept : (p : List Value → Bool) (rows : List (List Value)) (row : List Value) → has_row (filter p rows) row ≡ (has_row rows row && p row)
has-kept p rows row =
    is_member-filter (eq_by_cmp_equiv IsTotalOrder-tuple_cmp) p row
    (λ r same. ap p (same_row row r same)) rows

-- a row stands in a list with another where it is that one, or stands in the list
pub has-with_item : (rows : List (List Value)) (q row : List Value) → has_row (with_item tuple_cmp rows q) row ≡ (eq_by_cmp tuple_cmp row q || has_row rows row)
has-with_item rows q row =
    elim (has_row rows q) as (λ b. has_row rows q ≡ b → has_row (cond b rows (items_below tuple_cmp rows q ++ q ∷ items_from tuple_cmp rows q)) row ≡ (eq_by_cmp tuple_cmp row q || has_row rows row)) [
      | true ↦ λ there. stood rows q row there
      | false ↦ λ absent.
          list_any-append (eq_by_cmp tuple_cmp row) (items_below tuple_cmp rows q) (q ∷ items_from tuple_cmp rows q)
          ∙ ap (λ b. b || (eq_by_cmp tuple_cmp row q || has_row (items_from tuple_cmp rows q) row)) (has-kept (λ x. is_lt (tuple_cmp x q)) rows row)
          ∙ ap (λ b. (has_row rows row && is_lt (tuple_cmp row q)) || (eq_by_cmp tuple_cmp row q || b)) (has-kept (λ x. not (is_lt (tuple_cmp x q))) rows row)
          ∙ in_parts (has_row rows row) (eq_by_cmp tuple_cmp row q) (is_lt (tuple_cmp row q))
    ] refl

-- a row stands in a list without another where it stands in the list and is not that one
pub has-without_item : (rows : List (List Value)) (q row : List Value) → has_row (without_item tuple_cmp rows q) row ≡ (has_row rows row && not (eq_by_cmp tuple_cmp row q))
has-without_item rows q row = has-kept (λ x. not (is_eq (tuple_cmp x q))) rows row

pub has-inserted : (added rows : List (List Value)) (row : List Value) → has_row (fold (with_item tuple_cmp) rows added) row ≡ (has_row added row || has_row rows row)
has-inserted [] rows row = refl
has-inserted (q ∷ added) rows row =
    has-inserted added (with_item tuple_cmp rows q) row
    ∙ ap (λ b. has_row added row || b) (has-with_item rows q row)
    ∙ moved (has_row added row) (eq_by_cmp tuple_cmp row q) (has_row rows row)
  where
    moved : (a b c : Bool) → (a || (b || c)) ≡ ((b || a) || c)
    moved true true c = refl
    moved true false c = refl
    moved false true c = refl
    moved false false c = refl

pub Ascends-with_item : (rows : List (List Value)) (q : List Value) → Ascends rows → Ascends (with_item tuple_cmp rows q)
Ascends-with_item rows q rise = sorted-with_item tuple_cmp IsTotalOrder-tuple_cmp rows q rise

pub Ascends-without_item : (rows : List (List Value)) (q : List Value) → Ascends rows → Ascends (without_item tuple_cmp rows q)
Ascends-without_item rows q rise = IsStrictlySortedBy-filter tuple_cmp (λ x. not (is_eq (tuple_cmp x q))) rows rise

pub Ascends-inserted : (added rows : List (List Value)) → Ascends rows → Ascends (fold (with_item tuple_cmp) rows added)
Ascends-inserted [] rows rise = rise
Ascends-inserted (q ∷ added) rows rise = Ascends-inserted added (with_item tuple_cmp rows q) (Ascends-with_item rows q rise)

-- ---- the net delta

pub Ascends-without : (others rows : List (List Value)) → Ascends rows → Ascends (without others rows)
Ascends-without others rows rise = IsStrictlySortedBy-filter tuple_cmp (λ row. not (has_row others row)) rows rise

first_of_both : (a b : Bool) → (a && b) ≡ true → a ≡ true
first_of_both true b e = refl
first_of_both false b e = cc

second_fails : (a b : Bool) → (a && not b) ≡ true → b ≡ false
second_fails true true e = cc
second_fails true false e = refl
second_fails false b e = cc

pub Fits-net : (before after : List (List Value)) → Fits before (net before after)
Fits-net before after = record {
  were_there = λ row went. first_of_both (has_row before row) (not (has_row after row)) (sym (has-without after before row) ∙ went);
  are_new = λ row came. second_fails (has_row after row) (has_row before row) (sym (has-without before after row) ∙ came);
}

-- what is after, or was before and hasn't gone
settled : (a b : Bool) → ((a && not b) || (b && not (b && not a))) ≡ a
settled true true = refl
settled true false = refl
settled false true = refl
settled false false = refl

has-applied : (before after : List (List Value)) (row : List Value) → has_row (applied (net before after) before) row ≡ has_row after row
has-applied before after row =
    has-inserted (without before after) (without (without after before) before) row
    ∙ ap (λ b. b || has_row (without (without after before) before) row) (has-without before after row)
    ∙ ap (λ b. (has_row after row && not (has_row before row)) || b) (has-without (without after before) before row ∙ ap (λ b. has_row before row && not b) (has-without after before row))
    ∙ settled (has_row after row) (has_row before row)

pub applied-net : (before after : List (List Value)) → Ascends before → Ascends after → applied (net before after) before ≡ after
applied-net before after rise rise_too =
    same_list tuple_cmp IsTotalOrder-tuple_cmp exact-tuple_cmp (applied (net before after) before) after
    (Ascends-inserted (without before after) (without (without after before) before) (Ascends-without (without after before) before rise))
    rise_too (has-applied before after)

-- ---- of a list with itself

none-filter : (p : List Value → Bool) (rows : List (List Value)) → ((row : List Value) → has_row rows row ≡ true → p row ≡ false) → filter p rows ≡ []
none-filter p [] none = refl
none-filter p (x ∷ rows) none = rw (none x (ap (λ b. b || has_row rows x) ((eq_by_cmp-Decides IsTotalOrder-tuple_cmp exact-tuple_cmp x x).1 refl)))
    (none-filter p rows (λ row there. none row (later (eq_by_cmp tuple_cmp row x) (has_row rows row) there)))
  where
    later : (a b : Bool) → b ≡ true → (a || b) ≡ true
    later true b e = refl
    later false b e = e

pub without-itself : (rows : List (List Value)) → without rows rows ≡ []
without-itself rows = none-filter (λ row. not (has_row rows row)) rows (λ row there. ap not there)

pub net-itself : (rows : List (List Value)) → net rows rows ≡ record { added = []; removed = [] }
net-itself rows = λ i. record { added = without-itself rows i; removed = without-itself rows i }

-- ---- all rows of a base

-- a delta that is net fits
Fits-is_net : (before after : List (List Value)) (delta : Delta) → change_of delta ≡ net before after → Fits before (change_of delta)
Fits-is_net before after delta is = subst (Fits before) (sym is) (Fits-net before after)

pub FitsBase-net : (before after : BaseRows) (difference : BaseDelta) → IsNet before after difference → FitsBase before difference
FitsBase-net before after difference is = record {
  counts = is.counts;
  classes = λ n delta at. Fits-is_net (before.of_class (record { 0 = n })) (after.of_class (record { 0 = n })) delta (is.classes n delta at);
  attributes = λ n delta at. Fits-is_net (before.of_attribute (record { 0 = n })) (after.of_attribute (record { 0 = n })) delta (is.attributes n delta at);
  references = λ n delta at. Fits-is_net (before.of_reference (record { 0 = n })) (after.of_reference (record { 0 = n })) delta (is.references n delta at);
}

-- a list of deltas that are net, at a number that it has
module _ (deltas : List Delta) (rows later : List (List Value)) (n : ℕ) (rise : Ascends rows) (rise_too : Ascends later)
    (each : (delta : Delta) → slice_get deltas n ≡ Some delta → change_of delta ≡ net rows later) where
  applied_there : (found : Option Delta) → slice_get deltas n ≡ found → (found ≡ None → ⊥) → applied_at found rows ≡ later
  applied_there None at there = absurd (there refl)
  applied_there (Some delta) at there = ap (λ change. applied change rows) (each delta at) ∙ applied-net rows later rise rise_too

-- below the length there is a delta
there_below : (deltas : List Delta) (n : ℕ) → n < length deltas → slice_get deltas n ≡ None → ⊥
there_below [] n below none = absurd (omega (arith, below))
there_below (d ∷ deltas) zero below none = cc
there_below (d ∷ deltas) (suc n) below none = there_below deltas n (omega (arith, below)) none

pub SameRows-net : (before after : BaseRows) (difference : BaseDelta) → AllAscend before → AllAscend after → IsNet before after difference
    → SameRows (applied_base difference before) after
SameRows-net before after difference rise rise_too is = record {
  classes = λ c below. applied_there difference.classes (before.of_class c) (after.of_class c) c.0 (rise.classes c) (rise_too.classes c) (is.classes c.0)
      (slice_get difference.classes c.0) refl (there_below difference.classes c.0 (subst (λ m. c.0 < m) (sym is.counts.classes) below));
  attributes = λ a below. applied_there difference.attributes (before.of_attribute a) (after.of_attribute a) a.0 (rise.attributes a) (rise_too.attributes a) (is.attributes a.0)
      (slice_get difference.attributes a.0) refl (there_below difference.attributes a.0 (subst (λ m. a.0 < m) (sym is.counts.attributes) below));
  references = λ r below. applied_there difference.references (before.of_reference r) (after.of_reference r) r.0 (rise.references r) (rise_too.references r) (is.references r.0)
      (slice_get difference.references r.0) refl (there_below difference.references r.0 (subst (λ m. r.0 < m) (sym is.counts.references) below));
}
