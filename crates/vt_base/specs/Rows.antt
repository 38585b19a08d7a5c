-- Rows: a set of tuples, as the list in which they ascend.
use Rattle.std.specs.Prelude.{◌≡◌, Bool, List}
use Rattle.std.specs.Ordering.{eq_by_cmp}
use Rattle.std.specs.Set.{is_member}
use Rattle.std.specs.List.Sorted.{IsStrictlySortedBy}
use Rattle.vt_base.specs.Order.{tuple_cmp}
use Rattle.vt_base.specs.declared.value.Value.{Value}

-- each tuple is below all that follow, so none comes twice
abbrev pub Ascends : List (List Value) → Type 0
Ascends rows = IsStrictlySortedBy tuple_cmp rows

-- whether a tuple stands in a list
abbrev pub has_row : List (List Value) → List Value → Bool
has_row rows row = is_member (eq_by_cmp tuple_cmp) rows row

-- the set of the tuples of a list
pub record IsSetOf (given rows : List (List Value)) : Type 0 where
  pub ascends : Ascends rows
  pub same : (row : List Value) → has_row rows row ≡ has_row given row
