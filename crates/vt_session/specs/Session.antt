-- What a session keeps, the state of the run that it stands for, and what its calls answer.
use Rattle.std.specs.Prelude.{◌≡◌, ℕ, ◌+◌, ◌&&◌, List, length, position, slice_get, Option, option_and_then, Result, Ok, Err}
use Rattle.vt_facts.specs.Names.{is_name}
use Rattle.vt_base.specs.declared.value.Value.{Value}
use Rattle.vt_model.specs.Metamodel.{Metamodel}
use Rattle.vt_model.specs.Model.{Model}
use Rattle.vt_query.specs.declared.program.Program.{Program}
use Rattle.vt_history.specs.History.{commit, Step, IsHistory, model_after, tables_after}
use Rattle.vt_history.specs.Report.{Reports}
use Rattle.vt_history.specs.declared.report.StepReport.{StepReport}
use Rattle.vt_session.specs.declared.buffers.Buffer.{Buffer}
use Rattle.vt_session.specs.Buffers.{Denial, already_open, too_many_open, not_open, too_many_changes, refused}
use Rattle.vt_session.specs.Run.{State, IsStep, committed, after_step}
use Rattle.vt_session.specs.declared.fault.SessionFault.{SessionFault}
use Rattle.vt_session.specs.declared.fault.SessionFault.TheVariants as fault

pub record Kept : Type 0 where
  pub meta : Metamodel
  pub program : Program
  pub model : Model
  pub tables : List (List (List Value))
  -- the number of the last step
  pub step : ℕ
  pub buffers : List Buffer

-- the session has come to where the run is
pub record StandsFor (kept : Kept) (state : State) : Type 0 where
  pub history : IsHistory kept.meta kept.program state.steps
  pub model : kept.model ≡ model_after state.steps
  pub tables : kept.tables ≡ tables_after state.steps
  pub step : kept.step + 1 ≡ length state.steps
  pub buffers : kept.buffers ≡ state.buffers

-- no call changes the metamodel or the program
pub record IsOfOne (old new : Kept) : Type 0 where
  pub meta : new.meta ≡ old.meta
  pub program : new.program ≡ old.program

-- ---- answers

-- a fault is the denial that is due
abbrev pub IsFaultOf : SessionFault → Denial → Type 0
IsFaultOf fault.AlreadyOpen denial = denial ≡ already_open
IsFaultOf fault.TooManyOpen denial = denial ≡ too_many_open
IsFaultOf fault.NotOpen denial = denial ≡ not_open
IsFaultOf fault.TooManyChanges denial = denial ≡ too_many_changes
IsFaultOf (fault.Refused at why) denial = denial ≡ refused (record { at = at; why = why })
IsFaultOf fault.NoMemory denial = Unit {0}

-- a call may be refused so; want of memory may stand for any answer
abbrev pub IsDenied : {A : Type 0} → SessionFault → Result A Denial → Type 0
IsDenied fault.NoMemory due = Unit {0}
IsDenied fault due = (denial : Denial) × (due ≡ Err denial) × IsFaultOf fault denial

-- a call that changes buffers alone has done what is due in a state
pub record HasBuffers (due : Result (List Buffer) Denial) (state : State) (new : Kept) : Type 0 where
  pub buffers : List Buffer
  pub is : due ≡ Ok buffers
  pub stands : StandsFor new (record state { buffers = buffers })

-- a client's buffer has become a step, which is reported
pub record Commits (client : List ℕ) (state : State) (report : StepReport) (old new : Kept) : Type 0 where
  pub model : Model
  pub due : committed old.meta client state ≡ Ok model
  pub step : Step
  pub is : IsStep old.meta old.program (commit client) model step
  pub reports : Reports step state.steps report
  pub stands : StandsFor new (after_step client step state)

-- ---- what is read

-- the table of the pattern of this name that isn't private
abbrev pub table_in : Program → List (List (List Value)) → List ℕ → Option (List (List Value))
table_in program tables name = option_and_then (slice_get tables) (position (λ p. p.shown && is_name p.name name) program.patterns)

abbrev pub table_named : Kept → List ℕ → Option (List (List Value))
table_named kept name = table_in kept.program kept.tables name
