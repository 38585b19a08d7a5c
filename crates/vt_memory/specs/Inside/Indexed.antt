-- Rows under the keys of a slab, and chains in which these keys are found.
use Rattle.std.specs.Prelude.{◌≡◌, ℕ, ◌%◌, ◌<◌, ◌≤◌, ◌==◌, Bool, false, cond, List, [], ◌∷◌, length, fold, replicate, Option, Some, None, slice_index_or}
use Rattle.std.specs.List.{AllByRecursion, find}
use Rattle.std.specs.Ordering.{eq_by_cmp}
use Rattle.slab.specs.Slab.{Slab, entries, get}
use Rattle.vt_sorted.specs.Ascending.{with_item}
use Rattle.vt_base.specs.Order.{tuple_cmp}
use Rattle.vt_base.specs.declared.value.Value.{Value}
use Rattle.vt_memory.specs.Keyed.{has_values}
use Rattle.vt_memory.specs.Inside.Chains.{Chained, times, IsFree, chain_at, with_key, without_key}
use Rattle.vt_memory.specs.Inside.Numbers.{number_of, number_in}
use Rattle.vt_memory.specs.declared.index.Index.{Index}

-- ---- the rows of a slab

-- a set of rows, with those of some entries put in
abbrev pub with_entries : List (List Value) → List (ℕ × List Value) → List (List Value)
with_entries rows es = fold (λ rows entry. with_item tuple_cmp rows entry.1) rows es

-- the set of a slab's rows
abbrev pub rows_of : Slab (List Value) → List (List Value)
rows_of slab = with_entries [] (entries slab)

-- no row stands under two keys
abbrev pub IsAlone : Slab (List Value) → Type 0
IsAlone slab = (i j : ℕ) (row : List Value) → get slab i ≡ Some row → get slab j ≡ Some row → i ≡ j

-- ---- chains of a slab's keys

-- how often a key stands in the chain of a place: once where its row takes that place
abbrev pub stands_at : (List Value → ℕ) → ℕ → ℕ → Option (List Value) → ℕ
stands_at number places place None = 0
stands_at number places place (Some row) = cond (number row % places == place) 1 0

-- each key that has a row stands in the chain that takes the row's number, once, and nothing else
-- stands in a chain; the chains reach as far as the slab does
pub record IsIndexed (number : List Value → ℕ) (slab : Slab (List Value)) (chained : Chained) : Type 0 where
  pub some : 0 < length chained.chains
  pub reach : slab.capacity ≤ chained.reach
  pub keys : (place key : ℕ) → place < length chained.chains → times key (slice_index_or chained.chains place []) ≡ stands_at number (length chained.chains) place (get slab key)

-- all indexes of a slab are up to date
pub record IsSound (slab : Slab (List Value)) (whole : Chained) (indexes : List Index) : Type 0 where
  pub alone : IsAlone slab
  pub by_row : IsIndexed number_of slab whole
  pub by_key : AllByRecursion (λ index. IsIndexed (number_in index.columns) slab index.chains) indexes

-- an index with no keys
abbrev pub empty_index : ℕ → ℕ → List ℕ → Index
empty_index places reach columns = record { columns = columns; chains = record { chains = replicate places []; reach = reach } }

-- an index can take a key
abbrev pub CanTake : ℕ → Index → Type 0
CanTake key index = (key < index.chains.reach) × IsFree index.chains.chains key

-- an index with the key of a row
abbrev pub with_entry : ℕ → List Value → Index → Index
with_entry key row index = record { columns = index.columns; chains = record { chains = with_key index.chains.chains (number_in index.columns row) key; reach = index.chains.reach } }

-- an index has the key of a row
abbrev pub HasEntry : ℕ → List Value → Index → Type 0
HasEntry key row index = 0 < times key (chain_at index.chains.chains (number_in index.columns row))

-- an index without the key of a row
abbrev pub without_entry : ℕ → List Value → Index → Index
without_entry key row index = record { columns = index.columns; chains = record { chains = without_key index.chains.chains (number_in index.columns row) key; reach = index.chains.reach } }

-- ---- rows that are found

-- whether there is a row, and it is this one
abbrev pub is_row : List Value → Option (List Value) → Bool
is_row row None = false
is_row row (Some other) = eq_by_cmp tuple_cmp row other

-- the first of some keys that has this row
abbrev pub key_among : Slab (List Value) → List Value → List ℕ → Option ℕ
key_among slab row ks = find (λ key. is_row row (get slab key)) ks

-- a row, if it has these values in these columns
abbrev pub if_fits : List ℕ → List Value → Option (List Value) → Option (List Value)
if_fits columns values None = None
if_fits columns values (Some row) = cond (has_values columns values row) (Some row) None

abbrev pub and_row : Option (List Value) → List (List Value) → List (List Value)
and_row None rows = rows
and_row (Some row) rows = row ∷ rows

-- the rows of some keys that have these values in these columns
abbrev pub fitting : Slab (List Value) → List ℕ → List Value → List ℕ → List (List Value)
fitting slab columns values [] = []
fitting slab columns values (k ∷ ks) = and_row (if_fits columns values (get slab k)) (fitting slab columns values ks)

-- the rows of an index that have these values in its columns, in the order of their chain
abbrev pub found_by : Slab (List Value) → Index → List Value → List (List Value)
found_by slab index values = fitting slab index.columns values (chain_at index.chains.chains (number_of values))
