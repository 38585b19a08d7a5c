-- How edits lead back: from the store that changes left to the one before them.
use Rattle.std.specs.Prelude.{◌≡◌, List, [], ◌∷◌, ◌++◌, reverse, IsSome}
use Rattle.vt_base.specs.declared.numbers.ObjId.{ObjId}
use Rattle.vt_graph.specs.Held.{Held}
use Rattle.vt_graph.specs.Asked.{gone_at}
use Rattle.vt_store.specs.Edits.{undone}
use Rattle.vt_store.specs.Undoing.{HeldEdit, KeepsRoomOf, Fits}
use Rattle.vt_change.specs.declared.applied.Applied.{Applied}

-- the metamodel and the model are as before, and no live object has less room
pub record IsBack (before after : Held) : Type 0 where
  pub meta : after.meta ≡ before.meta
  pub model : after.model ≡ before.model
  pub room : KeepsRoomOf before.model before.places after.places

-- an edit was taken back
pub record IsReverted (e : HeldEdit) (before after : Held) : Type 0 where
  pub meta : after.meta ≡ before.meta
  pub model : after.model ≡ undone e.edit before.model
  pub room : KeepsRoomOf after.model (e.waiting ++ before.places) after.places

-- an edit can be taken back, and what was deleted before it is deleted still
pub record FitsLast (e : HeldEdit) (s : Held) : Type 0 where
  pub fits : Fits e s
  pub gone : (o : ObjId) → IsSome (gone_at (undone e.edit s.model) o) → IsSome (gone_at s.model o)

-- edits, of which the last comes first: it can be taken back, then those before it, and then all is as before
abbrev pub LeadBack : Held → List HeldEdit → Held → Type 0
LeadBack before [] s = IsBack before s
LeadBack before (e ∷ earlier) s = FitsLast e s × ((left : Held) → IsReverted e s left → LeadBack before earlier left)

-- what was applied leads back to the store before it
abbrev pub LeadsBack : Held → Applied → Held → Type 0
LeadsBack before applied s = LeadBack before (reverse applied.edits) s

-- it can be undone: it leads back to some store
abbrev pub CanUndo : Applied → Held → Type 0
CanUndo applied s = (before : Held) × LeadsBack before applied s
