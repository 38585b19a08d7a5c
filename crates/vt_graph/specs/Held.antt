-- A model that is held: its metamodel, its lists, and beside them the places that are kept.
use Rattle.std.specs.Prelude.{List}
use Rattle.vt_base.specs.declared.numbers.ObjId.{ObjId}
use Rattle.vt_base.specs.declared.numbers.ClassId.{ClassId}
use Rattle.vt_model.specs.Metamodel.{Metamodel}
use Rattle.vt_model.specs.Model.{Model}
use Rattle.vt_model.specs.declared.model.Object.{Object}
use Rattle.vt_slots.specs.Ends.{EndList}

-- what is kept of an object that was ever made: its class, and the lists of its ends with their room
pub record Place : Type 0 where
  pub object : ObjId
  pub class : ClassId
  pub outgoing : List EndList
  pub incoming : List EndList

-- an object that was deleted, with the lists of its ends, whose room waits for its return
pub record Buried : Type 0 where
  pub meta : Metamodel
  pub object : Object
  pub outgoing : List EndList
  pub incoming : List EndList

pub record Held : Type 0 where
  pub meta : Metamodel
  pub model : Model
  pub places : List Place
