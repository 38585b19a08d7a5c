-- Where a list of changes stops.
use Rattle.std.specs.Prelude.{◌≡◌, Result, Err}
use Rattle.vt_model.specs.Model.{Model}
use Rattle.vt_model.specs.Transaction.{Stop}
use Rattle.vt_model_json.specs.declared.loading.ModelFault.{ModelFault}
use Rattle.vt_model_json.specs.declared.loading.ModelFault.TheVariants.{NotJson, BadShape, Item, NoMemory}

-- a call stops where the changes stop; want of memory may stand for any answer
abbrev pub IsStopOf : ModelFault → Result Model Stop → Type 0
IsStopOf NotJson due = ⊥
IsStopOf BadShape due = ⊥
IsStopOf (Item index why) due = due ≡ Err (record { at = index; why = why })
IsStopOf NoMemory due = Unit {0}
