-- What the test's steps promise each other: how a store goes forward, and comes back.
use Rattle.std.specs.Prelude.{◌≡◌, ◌++◌, IsSome, Result, Ok, Err}
use Rattle.vt_base.specs.declared.numbers.ObjId.{ObjId}
use Rattle.vt_model.specs.declared.change.Refusal.{Refusal}
use Rattle.vt_graph.specs.Held.{Held}
use Rattle.vt_graph.specs.Asked.{gone_at}
use Rattle.vt_store.specs.Edits.{undone}
use Rattle.vt_store.specs.Undoing.{HeldEdit, KeepsRoomOf, Fits}

-- the same model, with no less room
pub record Stays (before after : Held) : Type 0 where
  pub meta : after.meta ≡ before.meta
  pub model : after.model ≡ before.model
  pub room : KeepsRoomOf before.model before.places after.places

-- the edit leads back, to a model with no less room; what was deleted before stays so
pub record LeadsBack (e : HeldEdit) (before after : Held) : Type 0 where
  pub meta : after.meta ≡ before.meta
  pub fits : Fits e after
  pub model : undone e.edit after.model ≡ before.model
  pub room : KeepsRoomOf before.model before.places (e.waiting ++ after.places)
  pub gone : (o : ObjId) → IsSome (gone_at before.model o) → IsSome (gone_at after.model o)

-- a change was made, or was refused
abbrev pub IsStep : Result HeldEdit Refusal → Held → Held → Type 0
IsStep (Ok e) before after = LeadsBack e before after
IsStep (Err why) before after = Stays before after

-- the edit was taken back
pub record IsUndone (e : HeldEdit) (before after : Held) : Type 0 where
  pub meta : after.meta ≡ before.meta
  pub model : after.model ≡ undone e.edit before.model
  pub room : KeepsRoomOf after.model (e.waiting ++ before.places) after.places

-- what a step did was taken back, where it did something
abbrev pub IsTakenBack : Result HeldEdit Refusal → Held → Held → Type 0
IsTakenBack (Ok e) before after = IsUndone e before after
IsTakenBack (Err why) before after = after ≡ before
