-- What a step leaves, and the report of it.
use Rattle.std.specs.Prelude.{◌≡◌, ℕ, List, None}
use Rattle.vt_base.specs.declared.numbers.ObjId.{ObjId}
use Rattle.vt_base.specs.declared.numbers.PatternId.{PatternId}
use Rattle.vt_base.specs.declared.value.Value.{Value}
use Rattle.vt_model.specs.Metamodel.{Metamodel}
use Rattle.vt_model.specs.Model.{Model}
use Rattle.vt_model.specs.Touched.{AreTouched}
use Rattle.vt_query.specs.Holding.{table_of}
use Rattle.vt_query.specs.Tables.{StandFor}
use Rattle.vt_query.specs.declared.program.Program.{Program}
use Rattle.vt_history.specs.Events.{AreEvents}
use Rattle.vt_history.specs.Report.{HoldLive, AreOfPatterns}
use Rattle.vt_history.specs.declared.report.PatternEvents.{PatternEvents}
use Rattle.vt_history.specs.declared.report.StepReport.{StepReport}

-- the rows of all tables hold live objects alone
abbrev pub AllHoldLive : Model → List (List (List Value)) → Type 0
AllHoldLive g tables = (p : PatternId) → HoldLive g (table_of tables p)

-- what happened to a pattern's matches in a step that touched these objects
pub record IsOfPattern (p : PatternId) (old new : List (List (List Value))) (touched : List ObjId) (e : PatternEvents) : Type 0 where
  pub pattern : e.pattern ≡ p
  pub events : (g h : Model) → AreTouched g h touched → AllHoldLive g old → AllHoldLive h new → AreEvents g h (table_of old p) (table_of new p) e

-- the tables after a step from one model to another, and the report of it
pub record IsNext (meta : Metamodel) (program : Program) (g h : Model) (old new : List (List (List Value))) (number : ℕ) (report : StepReport) : Type 0 where
  pub tables : StandFor meta h program new
  pub number_is : report.step ≡ number
  pub events : AreOfPatterns g h old new report.events
  pub touched : AreTouched g h report.touched
  pub fired : report.fired ≡ None
