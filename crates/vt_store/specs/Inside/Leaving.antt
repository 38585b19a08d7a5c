-- What a change of links leaves, and what the deletion of an object does.
use Rattle.std.specs.Prelude.{◌≡◌, ◌++◌}
use Rattle.vt_base.specs.declared.numbers.ObjId.{ObjId}
use Rattle.vt_model.specs.Deleting.{deleted}
use Rattle.vt_graph.specs.Held.{Held}
use Rattle.vt_graph.specs.Room.{KeepsRoom}
use Rattle.vt_store.specs.Edits.{edit_of}
use Rattle.vt_store.specs.Undoing.{HeldEdit}
use Rattle.vt_store.specs.Inside.Waiting.{HasClasses}

-- the metamodel stays, and no object has less room
pub record LeavesRoom (old new : Held) : Type 0 where
  pub meta : new.meta ≡ old.meta
  pub room : KeepsRoom old.places new.places

-- an object went with all that was in it, and the edit is what went
pub record Deletes (o : ObjId) (old new : Held) (edit : HeldEdit) : Type 0 where
  pub made : new.model ≡ deleted old.meta old.model o
  pub edit_is : edit.edit ≡ edit_of old.model (deleted old.meta old.model o)
  pub of : edit.meta ≡ old.meta
  -- it can come back, to its class and with its room
  pub kept : HasClasses new.places edit.edit.live.removed
  pub waits : HasClasses edit.waiting edit.edit.live.removed
  pub room : KeepsRoom old.places (edit.waiting ++ new.places)
