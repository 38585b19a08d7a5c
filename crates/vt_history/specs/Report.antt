-- Reports: what is told of a step.
use Rattle.std.specs.Prelude.{◌≡◌, true, List, length, slice_get, Contains, Option, Some, None}
use Rattle.vt_base.specs.Rows.{has_row}
use Rattle.vt_base.specs.declared.numbers.ObjId.{ObjId}
use Rattle.vt_base.specs.declared.numbers.RuleId.{RuleId}
use Rattle.vt_base.specs.declared.numbers.PatternId.{PatternId}
use Rattle.vt_base.specs.declared.value.Value.{Value}
use Rattle.vt_base.specs.declared.value.Value.TheVariants.{Obj}
use Rattle.vt_model.specs.Model.{Model}
use Rattle.vt_model.specs.Touched.{Lives, AreTouched}
use Rattle.vt_query.specs.Holding.{table_of}
use Rattle.vt_history.specs.History.{Cause, fire, Step, model_after, tables_after}
use Rattle.vt_history.specs.Events.{AreEvents}
use Rattle.vt_history.specs.declared.report.PatternEvents.{PatternEvents}
use Rattle.vt_history.specs.declared.report.StepReport.{StepReport}

-- the rows of a set hold no other objects than live ones
abbrev pub HoldLive : Model → List (List Value) → Type 0
HoldLive g rows = (row : List Value) → has_row rows row ≡ true → (o : ObjId) → Contains row (Obj o) → Lives g o

-- each pattern in its order, with what happened to its matches
pub record AreOfPatterns (before after : Model) (old new : List (List (List Value))) (events : List PatternEvents) : Type 0 where
  pub count : length events ≡ length new
  pub each : (p : PatternId) (e : PatternEvents) → slice_get events p.0 ≡ Some e
      → (e.pattern ≡ p) × AreEvents before after (table_of old p) (table_of new p) e

-- the rule that fired and the match that it fired for
abbrev pub fired_by : Cause → Option (RuleId × List Value)
fired_by (fire rule row) = Some (rule, row)
fired_by cause = None

-- the report of a step after those before it: steps count from 0
pub record Reports (step : Step) (earlier : List Step) (report : StepReport) : Type 0 where
  pub number : report.step ≡ length earlier
  pub events : AreOfPatterns (model_after earlier) step.model (tables_after earlier) step.tables report.events
  pub touched : AreTouched (model_after earlier) step.model report.touched
  pub fired : report.fired ≡ fired_by step.cause
