-- What is left of the body of an object that was buried.
use Rattle.std.specs.Prelude.{◌≡◌, [], All, None}
use Rattle.vt_base.specs.declared.numbers.ClassId.{ClassId}
use Rattle.vt_base.specs.declared.numbers.RefId.{RefId}
use Rattle.vt_model.specs.Metamodel.{Metamodel}
use Rattle.vt_slots.specs.Ends.{objects_of}
use Rattle.vt_slots.specs.Slots.{ends_on}
use Rattle.vt_slots.specs.declared.slot.Side.{Side}
use Rattle.vt_slots.specs.declared.slot.Body.{Body}
use Rattle.vt_graph.specs.Inside.Indexed.{IsBodyOf}

-- a body of a class that has no value and no link
pub record IsSpare (meta : Metamodel) (c : ClassId) (spare : Body) : Type 0 where
  pub body : IsBodyOf meta c spare
  pub no_values : All (λ h. h.value ≡ None) spare.values
  pub no_links : (side : Side) (r : RefId) → objects_of (ends_on side spare) r ≡ []
