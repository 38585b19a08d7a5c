-- Changes of a set of rows: what came and what went.
use Rattle.std.specs.Prelude.{◌≡◌, ℕ, List, [], filter, fold, map, not, cond, true, false, slice_set, slice_index_or}
use Rattle.vt_sorted.specs.Ascending.{with_item, without_item}
use Rattle.vt_base.specs.Order.{tuple_cmp}
use Rattle.vt_base.specs.Rows.{has_row}
use Rattle.vt_base.specs.declared.value.Value.{Value}
use Rattle.vt_delta.specs.declared.delta.Delta.{Delta}

-- the rows that came, and those that went
pub record Change : Type 0 where
  pub added : List (List Value)
  pub removed : List (List Value)

-- the rows of a list that another one lacks
abbrev pub without : List (List Value) → List (List Value) → List (List Value)
without others rows = filter (λ row. not (has_row others row)) rows

-- what is in the second and not in the first, and the reverse
abbrev pub net : List (List Value) → List (List Value) → Change
net before after = record { added = without before after; removed = without after before }

-- the rows without those that went, and with those that came, each at its place
abbrev pub applied : Change → List (List Value) → List (List Value)
applied change rows = fold (with_item tuple_cmp) (without change.removed rows) change.added

-- what went was there, and what came was not
pub record Fits (rows : List (List Value)) (change : Change) : Type 0 where
  pub were_there : (row : List Value) → has_row change.removed row ≡ true → has_row rows row ≡ true
  pub are_new : (row : List Value) → has_row change.added row ≡ true → has_row rows row ≡ false

-- nothing came, and nothing went
abbrev pub no_change : Change
no_change = record { added = []; removed = [] }

-- a row came: one that had gone is back, any other is added
abbrev pub after_coming : Change → List Value → Change
after_coming change row = cond (has_row change.removed row)
    (record { added = change.added; removed = without_item tuple_cmp change.removed row })
    (record { added = with_item tuple_cmp change.added row; removed = change.removed })

-- a row went: one that had come is no longer added, any other is removed
abbrev pub after_going : Change → List Value → Change
after_going change row = cond (has_row change.added row)
    (record { added = without_item tuple_cmp change.added row; removed = change.removed })
    (record { added = change.added; removed = with_item tuple_cmp change.removed row })

-- a delta's rows
abbrev pub change_of : Delta → Change
change_of delta = record { added = delta.added.items; removed = delta.removed.items }

-- the changes of some deltas
abbrev pub changes_of : List Delta → List Change
changes_of deltas = map change_of deltas

-- the changes, that at one number turned into another
abbrev pub turned_at : (Change → Change) → List Change → ℕ → List Change
turned_at turn changes n = slice_set changes n (turn (slice_index_or changes n no_change))
