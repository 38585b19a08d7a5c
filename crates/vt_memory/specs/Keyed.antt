-- What a contract sees of a memory, and the rows of a bucket.
use Rattle.std.specs.Prelude.{ℕ, Bool, true, false, ◌&&◌, List, [], ◌∷◌, Option, Some, None, slice_get, slice_index_or}
use Rattle.std.specs.List.{filter}
use Rattle.std.specs.Ordering.{is_eq}
use Rattle.vt_base.specs.Order.{value_cmp}
use Rattle.vt_base.specs.declared.value.Value.{Value}

-- the rows in ascending order, the columns of each key, and how many more rows need no memory
pub record Keyed : Type 0 where
  pub rows : List (List Value)
  pub keys : List (List ℕ)
  pub spare : ℕ

-- whether a cell is there and has this value
abbrev pub has_value : Value → Option Value → Bool
has_value value None = false
has_value value (Some other) = is_eq (value_cmp value other)

-- whether a row has these values in these columns, one after the other
abbrev pub has_values : List ℕ → List Value → List Value → Bool
has_values [] values row = true
has_values (c ∷ cs) [] row = true
has_values (c ∷ cs) (v ∷ vs) row = has_value v (slice_get row c) && has_values cs vs row

-- the columns of a key, none where there is no such key
abbrev pub columns_at : List (List ℕ) → ℕ → List ℕ
columns_at keys key = slice_index_or keys key []

-- the rows with these values in a key's columns
abbrev pub bucket_of : Keyed → ℕ → List Value → List (List Value)
bucket_of memory key values = filter (has_values (columns_at memory.keys key) values) memory.rows
