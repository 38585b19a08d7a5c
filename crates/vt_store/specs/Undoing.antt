-- When an edit can be taken back.
use Rattle.std.specs.Prelude.{◌≡◌, ◌≤◌, List, ◌++◌, length, Contains, Some, IsSome}
use Rattle.vt_base.specs.declared.numbers.ObjId.{ObjId}
use Rattle.vt_base.specs.declared.numbers.ClassId.{ClassId}
use Rattle.vt_base.specs.declared.numbers.RefId.{RefId}
use Rattle.vt_model.specs.Metamodel.{Metamodel}
use Rattle.vt_model.specs.Model.{Model}
use Rattle.vt_model.specs.Valid.{IsValid}
use Rattle.vt_model.specs.declared.model.Object.{Object}
use Rattle.vt_slots.specs.declared.slot.Side.{Side}
use Rattle.vt_graph.specs.Held.{Held, Place}
use Rattle.vt_graph.specs.Asked.{live_at, gone_at, others_at}
use Rattle.vt_graph.specs.Room.{class_kept, capacity_at}
use Rattle.vt_store.specs.Edits.{Edit, edit_of, undone}

-- an edit that is held: of a metamodel, with the places of deleted objects, whose lists wait in it
pub record HeldEdit : Type 0 where
  pub meta : Metamodel
  pub edit : Edit
  pub waiting : List Place

-- for no live object of the model less room, and the class of each deleted one is kept
pub record KeepsRoomOf (g : Model) (old new : List Place) : Type 0 where
  pub room : (o : ObjId) (side : Side) (r : RefId) → IsSome (live_at g o) → capacity_at old o side r ≤ capacity_at new o side r
  pub classes : (o : ObjId) (c : ClassId) → IsSome (gone_at g o) → class_kept old o ≡ Some c → class_kept new o ≡ Some c

-- the links of the model without the edit fit in the room that is kept, and in the one that waits
abbrev pub HasRoomBack : HeldEdit → Held → Type 0
HasRoomBack e s = (o : ObjId) (side : Side) (r : RefId) → IsSome (live_at (undone e.edit s.model) o)
    → length (others_at (undone e.edit s.model) o side r) ≤ capacity_at (e.waiting ++ s.places) o side r

-- the edit can be taken back
pub record Fits (e : HeldEdit) (s : Held) : Type 0 where
  pub of : e.meta ≡ s.meta
  -- it is what changed from the model without it, and that model is valid
  pub is : e.edit ≡ edit_of (undone e.edit s.model) s.model
  pub valid : IsValid s.meta (undone e.edit s.model)
  -- the objects that went are deleted, their classes are kept, and their places wait
  pub gone : (o : Object) → Contains e.edit.live.removed o → IsSome (gone_at s.model o.number)
  pub kept : (o : Object) → Contains e.edit.live.removed o → class_kept s.places o.number ≡ Some o.class
  pub waits : (o : Object) → Contains e.edit.live.removed o → class_kept e.waiting o.number ≡ Some o.class
  pub room : HasRoomBack e s
