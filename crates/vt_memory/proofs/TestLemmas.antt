-- What the tests' node has and what may change it, and a memory that takes rows in order.
use Rattle.std.proofs.Common.{◌≡◌, ◌≢◌, Bool, true, false, not, ◌&&◌, ◌||◌, List, [], ◌∷◌, refl, sym, ap, ◌∙◌, subst}
use Rattle.std.specs.List.{filter, fold}
use Rattle.std.specs.Ordering.{eq_by_cmp}
use Rattle.vt_sorted.specs.Ascending.{with_item}
use Rattle.vt_base.specs.Order.{tuple_cmp}
use Rattle.vt_base.specs.Rows.{Ascends, has_row}
use Rattle.vt_base.specs.declared.value.Value.{Value}
use Rattle.vt_base.proofs.RowsLemmas.{ascends-none}
use Rattle.vt_delta.specs.Changes.{Change, Fits, without, applied, net}
use Rattle.vt_delta.proofs.DeltaLemmas.{has-without, has-inserted, Ascends-inserted, Fits-net}
use Rattle.vt_memory.proofs.SetLemmas.{same_rows, or_false_right}
use Rattle.vt_memory.proofs.BucketLemmas.{has-filter}

-- ---- a node that has one row, where the left side has it and the right side doesn't

abbrev only : List Value → List (List Value) → List Value → Bool
only node right row = eq_by_cmp tuple_cmp row node && not (has_row right row)

-- what is told of a row, by what is told of it at the sides
pub shown : (node : List Value) (left right : List (List Value)) (row : List Value) (shows has same hidden : Bool)
    → shows ≡ (has && (same && not hidden)) → has ≡ has_row left row → same ≡ eq_by_cmp tuple_cmp row node → hidden ≡ has_row right row
    → shows ≡ has_row (filter (only node right) left) row
shown node left right row shows has same hidden is h s d =
    is
    ∙ ap (λ b. b && (same && not hidden)) h
    ∙ ap (λ b. has_row left row && (b && not hidden)) s
    ∙ ap (λ b. has_row left row && (eq_by_cmp tuple_cmp row node && not b)) d
    ∙ sym (has-filter (only node right) left row)

and_false : (a : Bool) → (a && false) ≡ false
and_false true = refl
and_false false = refl

others : (node : List Value) (left right : List (List Value)) (row : List Value) → eq_by_cmp tuple_cmp row node ≡ false → has_row (filter (only node right) left) row ≡ false
others node left right row e =
    has-filter (only node right) left row
    ∙ ap (λ b. has_row left row && (b && not (has_row right row))) e
    ∙ and_false (has_row left row)

-- no row but the node's may change
pub only_changes : (node : List Value) (old_left old_right new_left new_right : List (List Value)) (row : List Value)
    → has_row (filter (only node new_right) new_left) row ≢ has_row (filter (only node old_right) old_left) row → has_row (node ∷ []) row ≡ true
only_changes node old_left old_right new_left new_right row differ =
    elim (eq_by_cmp tuple_cmp row node) as (λ b. eq_by_cmp tuple_cmp row node ≡ b → (b || false) ≡ true) [
      | true ↦ λ _. refl
      | false ↦ λ e. absurd (differ (others node new_left new_right row e ∙ sym (others node old_left old_right row e)))
    ] refl

-- ---- the new rows of a side

has-applied : (change : Change) (rows : List (List Value)) (row : List Value)
    → has_row (applied change rows) row ≡ (has_row change.added row || (has_row rows row && not (has_row change.removed row)))
has-applied change rows row =
    has-inserted change.added (without change.removed rows) row
    ∙ ap (λ b. has_row change.added row || b) (has-without change.removed rows row)

-- whether a row stands, by whether it stood, came, or went
pub stands_now : (change : Change) (rows : List (List Value)) (row : List Value) (stands stood came went : Bool)
    → stands ≡ (came || (stood && not went)) → stood ≡ has_row rows row → came ≡ has_row change.added row → went ≡ has_row change.removed row
    → stands ≡ has_row (applied change rows) row
stands_now change rows row stands stood came went is s a w =
    is
    ∙ ap (λ b. b || (stood && not went)) a
    ∙ ap (λ b. has_row change.added row || (b && not went)) s
    ∙ ap (λ b. has_row change.added row || (has_row rows row && not b)) w
    ∙ sym (has-applied change rows row)

-- ---- rows that are put in, one after the other

pub put_in_all : (rows : List (List Value)) → Ascends rows → fold (with_item tuple_cmp) [] rows ≡ rows
put_in_all rows s =
    same_rows (fold (with_item tuple_cmp) [] rows) rows (Ascends-inserted rows [] (ascends-none tuple_cmp)) s
    (λ row. has-inserted rows [] row ∙ or_false_right (has_row rows row))

-- a net delta fits a memory that has the rows before
pub fits_net : (rows before after : List (List Value)) (change : Change) → rows ≡ before → change ≡ net before after → Fits rows change
fits_net rows before after change same is =
    let P : List (List Value) → Type 0 = λ r. Fits r change in
    subst P (sym same) (subst (Fits before) (sym is) (Fits-net before after))
