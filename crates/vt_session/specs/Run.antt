-- The run of a session as it is to be: its steps, and the open buffers.
use Rattle.std.specs.Prelude.{◌≡◌, ℕ, List, [], ◌∷◌, Option, Some, None, Result, Ok, Err}
use Rattle.vt_model.specs.Metamodel.{Metamodel}
use Rattle.vt_model.specs.Model.{Model}
use Rattle.vt_model.specs.Transaction.{Stop, transaction}
use Rattle.vt_query.specs.Tables.{StandFor}
use Rattle.vt_query.specs.declared.program.Program.{Program}
use Rattle.vt_history.specs.History.{Cause, load, Step, model_after}
use Rattle.vt_session.specs.declared.buffers.Buffer.{Buffer}
use Rattle.vt_session.specs.Buffers.{Denial, not_open, refused, buffer_of, without_buffer}

-- the steps so far, the last one first, and the open buffers
pub record State : Type 0 where
  pub steps : List Step
  pub buffers : List Buffer

-- a step that leaves a model; the tables after it are those of the patterns' matches
pub record IsStep (meta : Metamodel) (program : Program) (cause : Cause) (g : Model) (step : Step) : Type 0 where
  pub caused : step.cause ≡ cause
  pub model : step.model ≡ g
  pub tables : StandFor meta g program step.tables

-- it starts with the load, and no buffer is open
pub record IsStart (meta : Metamodel) (program : Program) (g : Model) (state : State) : Type 0 where
  pub step : Step
  pub loads : IsStep meta program load g step
  pub is : state ≡ record { steps = step ∷ []; buffers = [] }

-- the model that a client's buffer leads to from the last one, or why there is none
abbrev pub refused_at : Result Model Stop → Result Model Denial
refused_at (Ok g) = Ok g
refused_at (Err stop) = Err (refused stop)

abbrev pub committed_from : Metamodel → Model → Option Buffer → Result Model Denial
committed_from meta g None = Err not_open
committed_from meta g (Some b) = refused_at (transaction meta g b.changes)

abbrev pub committed : Metamodel → List ℕ → State → Result Model Denial
committed meta client state = committed_from meta (model_after state.steps) (buffer_of client state.buffers)

-- the buffer ends, whether its transaction is made or refused
abbrev pub without : List ℕ → State → State
without client state = record state { buffers = without_buffer client state.buffers }

-- a commit is a step
abbrev pub after_step : List ℕ → Step → State → State
after_step client step state = record { steps = step ∷ state.steps; buffers = without_buffer client state.buffers }
