-- The objects that rows name, of those that lived before and live still.
use Rattle.std.specs.Prelude.{ℕ, ◌&&◌, nat_lt, is_some, if◌then◌else◌, List, ◌∷◌, ◌++◌, Option, None, Some, Contains}
use Rattle.std.specs.List.{filter_map}
use Rattle.vt_delta.specs.Changes.{Change}
use Rattle.vt_base.specs.declared.numbers.ObjId.{ObjId}
use Rattle.vt_base.specs.declared.value.Value.{Value}
use Rattle.vt_base.specs.declared.value.Value.TheVariants.{Obj}
use Rattle.vt_model.specs.Model.{Model}
use Rattle.vt_model.specs.Touched.{Rise}
use Rattle.vt_graph.specs.Asked.{class_at}

-- the object that a row names first, if it is live and its number is below what was the next one
abbrev pub object_named : ℕ → Model → List Value → Option ObjId
object_named next g (Obj o ∷ row) = if nat_lt o.0 next && is_some (class_at g o) then Some o else None
object_named next g row = None

-- those that the rows of a change name, in any order
abbrev pub all_named : ℕ → Model → Change → List ObjId
all_named next g change = filter_map (object_named next g) change.added ++ filter_map (object_named next g) change.removed

-- the same objects, in rising order
pub record IsInOrder (given out : List ObjId) : Type 0 where
  pub rise : Rise out
  pub among : (o : ObjId) → Contains out o → Contains given o
  pub kept : (o : ObjId) → Contains given o → Contains out o
