-- A transaction under way: what its changes did so far, and the way back.
use Rattle.std.specs.Prelude.{◌≡◌, ◌≤◌, ◌⊎◌, ℕ, List, reverse, Contains}
use Rattle.vt_model.specs.Model.{Model}
use Rattle.vt_model.specs.Valid.{IsValid}
use Rattle.vt_model.specs.declared.model.Object.{Object}
use Rattle.vt_graph.specs.Held.{Held}
use Rattle.vt_store.specs.Undoing.{HeldEdit}
use Rattle.vt_store.specs.declared.fault.StoreFault.{StoreFault}
use Rattle.vt_store.specs.declared.fault.StoreFault.TheVariants.{Refused, NoMemory}
use Rattle.vt_change.specs.Leading.{LeadBack}
use Rattle.vt_change.specs.Inside.Telling.{IsTold}
use Rattle.vt_change.specs.declared.fault.ApplyFault.{ApplyFault}
use Rattle.vt_change.specs.declared.fault.ApplyFault.TheVariants as apply
use Rattle.vt_change.specs.declared.telling.Told.{Told}

-- each object that is live in the second model is live in the first, or has a number that was free then
abbrev pub AreKnown : Model → Model → Type 0
AreKnown before after = (x : Object) → Contains after.live x → Contains before.live x ⊎ (before.next ≤ x.number.0)

-- what was told is what changed since a valid model, and the edits lead back to it
pub record IsUnderWay (before now : Held) (telling : Told) (edits : List HeldEdit) : Type 0 where
  pub meta : now.meta ≡ before.meta
  pub begun : IsValid before.meta before.model
  pub told : IsTold before.meta before.model now.model telling
  pub known : AreKnown before.model now.model
  pub next : before.model.next ≤ now.model.next
  pub back : LeadBack before (reverse edits) now

-- the edits lead back from the one store as they did from the other
abbrev pub StillLeadBack : List HeldEdit → Held → List HeldEdit → Held → Type 0
StillLeadBack edits s more t = (before : Held) → LeadBack before (reverse edits) s → LeadBack before (reverse more) t

-- the fault of a transaction whose change at this place isn't made
abbrev pub fault_at : ℕ → StoreFault → ApplyFault
fault_at at (Refused why) = apply.Refused at why
fault_at at NoMemory = apply.NoMemory
