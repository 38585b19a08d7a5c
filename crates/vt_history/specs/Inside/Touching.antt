-- Tuples that hold one of some objects.
use Rattle.std.specs.Prelude.{Bool, false, List}
use Rattle.std.specs.List.{list_any}
use Rattle.std.specs.Ordering.{nat_cmp}
use Rattle.vt_sorted.specs.Ascending.{has}
use Rattle.vt_base.specs.declared.numbers.ObjId.{ObjId}
use Rattle.vt_base.specs.declared.value.Value.{Value}
use Rattle.vt_base.specs.declared.value.Value.TheVariants.{Obj}

-- the value is one of the objects
abbrev pub is_one : List ObjId → Value → Bool
is_one objects (Obj o) = has (λ a b. nat_cmp a.0 b.0) objects o
is_one objects v = false

-- some value of the tuple is
abbrev pub touches : List ObjId → List Value → Bool
touches objects row = list_any (is_one objects) row
