-- What a store answers to a change, and what it leaves.
use Rattle.std.specs.Prelude.{◌≡◌, ◌++◌, IfOk, OnOk, OnErr, Result, Ok, Err}
use Rattle.vt_model.specs.Effect.{effect}
use Rattle.vt_model.specs.declared.change.Change.{Change}
use Rattle.vt_model.specs.declared.change.Refusal.{Refusal}
use Rattle.vt_graph.specs.Held.{Held}
use Rattle.vt_store.specs.Edits.{edit_of}
use Rattle.vt_store.specs.Undoing.{HeldEdit, KeepsRoomOf, Fits}
use Rattle.vt_store.specs.declared.fault.StoreFault.{StoreFault}
use Rattle.vt_store.specs.declared.fault.StoreFault.TheVariants.{Refused}

-- the change is made with an edit, or is refused; or memory ran out
pub record Makes (change : Change) (old new : Held) (result : Result HeldEdit StoreFault) : Type 0 where
  pub meta : new.meta ≡ old.meta
  -- the model is the change's effect, or the refusal is the first that applies
  pub made : OnOk result (effect old.meta old.model change ≡ Ok new.model)
  pub refused : (why : Refusal) → result ≡ Err (Refused why) → effect old.meta old.model change ≡ Err why
  -- what isn't made changes nothing
  pub unchanged : OnErr result (new.model ≡ old.model)
  -- the edit is what changed, and can be taken back
  pub edit : IfOk result (λ e. e.edit ≡ edit_of old.model new.model)
  pub fits : IfOk result (λ e. Fits e new)
  -- no object has less room, counted with what waits in the edit
  pub room : IfOk result (λ e. KeepsRoomOf old.model old.places (e.waiting ++ new.places))
  pub kept : OnErr result (KeepsRoomOf old.model old.places new.places)
