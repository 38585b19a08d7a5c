-- Events: what a step does to the matches of a pattern.
use Rattle.std.specs.Prelude.{◌≡◌, ◌↔◌, true, false, List, Contains}
use Rattle.vt_base.specs.Rows.{Ascends, has_row}
use Rattle.vt_base.specs.declared.numbers.ObjId.{ObjId}
use Rattle.vt_base.specs.declared.value.Value.{Value}
use Rattle.vt_base.specs.declared.value.Value.TheVariants.{Obj}
use Rattle.vt_model.specs.Model.{Model}
use Rattle.vt_model.specs.Touched.{HasOtherValues}
use Rattle.vt_history.specs.declared.report.PatternEvents.{PatternEvents}

-- some object of the tuple has other values after the step than before
pub record HasChanged (before after : Model) (row : List Value) : Type 0 where
  pub object : ObjId
  pub among : Contains row (Obj object)
  pub other : HasOtherValues before after object

-- ---- a tuple, over a pattern's tables before and after the step

-- it wasn't a match and is one
abbrev pub IsCreated : List (List Value) → List (List Value) → List Value → Type 0
IsCreated old new row = (has_row old row ≡ false) × (has_row new row ≡ true)

-- it was a match and is none
abbrev pub IsDeleted : List (List Value) → List (List Value) → List Value → Type 0
IsDeleted old new row = IsCreated new old row

-- it was a match and is one, and one of its objects has other values
abbrev pub IsUpdated : Model → Model → List (List Value) → List (List Value) → List Value → Type 0
IsUpdated before after old new row = (has_row old row ≡ true) × (has_row new row ≡ true) × HasChanged before after row

-- ---- all events of a pattern

-- a set of exactly the tuples of which something is true
pub record AreThose (Is : List Value → Type 0) (rows : List (List Value)) : Type 0 where
  pub ascend : Ascends rows
  pub each : (row : List Value) → (has_row rows row ≡ true) ↔ Is row

-- what happened to a pattern's matches: each tuple by its event
pub record AreEvents (before after : Model) (old new : List (List Value)) (events : PatternEvents) : Type 0 where
  pub created : AreThose (IsCreated old new) events.added.items
  pub deleted : AreThose (IsDeleted old new) events.removed.items
  pub updated : AreThose (IsUpdated before after old new) events.updated.items
