-- The room that is kept for links, and for objects that may come back.
use Rattle.std.specs.Prelude.{◌≡◌, ◌≢◌, ℕ, ◌<◌, ◌≤◌, ◌==◌, List, [], find, length, Option, Some, IsSome, option_map, unwrap_or}
use Rattle.vt_base.specs.declared.numbers.ObjId.{ObjId}
use Rattle.vt_base.specs.declared.numbers.ClassId.{ClassId}
use Rattle.vt_base.specs.declared.numbers.RefId.{RefId}
use Rattle.vt_model.specs.Model.{Model}
use Rattle.vt_slots.specs.Ends.{EndList, capacity_of}
use Rattle.vt_slots.specs.declared.slot.Side.{Side}
use Rattle.vt_slots.specs.declared.slot.Side.TheVariants.{Outgoing, Incoming}
use Rattle.vt_graph.specs.Held.{Held, Place, Buried}
use Rattle.vt_graph.specs.Asked.{live_at, others_at}

abbrev pub place_at : List Place → ObjId → Option Place
place_at places o = find (λ p. p.object.0 == o.0) places

-- the class of an object that was ever made
abbrev pub class_kept : List Place → ObjId → Option ClassId
class_kept places o = option_map (λ p. p.class) (place_at places o)

abbrev pub ends_of : Side → Place → List EndList
ends_of Outgoing place = place.outgoing
ends_of Incoming place = place.incoming

-- how many links of a reference an object holds on a side before that needs memory
abbrev pub capacity_at : List Place → ObjId → Side → RefId → ℕ
capacity_at places o side r = capacity_of (unwrap_or (option_map (ends_of side) (place_at places o)) []) r

-- an object holds one more link of a reference on a side without memory
abbrev pub HasRoomFor : Held → ObjId → Side → RefId → Type 0
HasRoomFor g o side r = length (others_at g.model o side r) < capacity_at g.places o side r

-- how many links a buried object holds there once it is back
abbrev pub capacity_in : Buried → Side → RefId → ℕ
capacity_in o Outgoing r = capacity_of o.outgoing r
capacity_in o Incoming r = capacity_of o.incoming r

-- for no object and reference less room, and each object's class is kept
pub record KeepsRoom (old new : List Place) : Type 0 where
  pub room : (o : ObjId) (side : Side) (r : RefId) → capacity_at old o side r ≤ capacity_at new o side r
  pub classes : (o : ObjId) (c : ClassId) → class_kept old o ≡ Some c → class_kept new o ≡ Some c

-- the same for all objects but one
pub record KeepsOthersRoom (o : ObjId) (old new : List Place) : Type 0 where
  pub room : (p : ObjId) (side : Side) (r : RefId) → p.0 ≢ o.0 → capacity_at old p side r ≤ capacity_at new p side r
  pub classes : (p : ObjId) (c : ClassId) → p.0 ≢ o.0 → class_kept old p ≡ Some c → class_kept new p ≡ Some c

-- the links of a model fit in the room of its live objects
abbrev pub HasRoom : List Place → Model → Type 0
HasRoom places g = (o : ObjId) (side : Side) (r : RefId) → IsSome (live_at g o) → length (others_at g o side r) ≤ capacity_at places o side r
