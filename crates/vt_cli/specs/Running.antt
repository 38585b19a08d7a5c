-- The run of a script: the states that its commands lead through, and the text that is due.
use Rattle.std.specs.Prelude.{◌≡◌, ℕ, List, [], ◌∷◌, ◌++◌, length, codes, decimal, Option, Some, None, Result, Ok, Err}
use Rattle.vt_base.specs.declared.value.Value.{Value}
use Rattle.vt_model.specs.Metamodel.{Metamodel, enum_names}
use Rattle.vt_model.specs.Model.{Model}
use Rattle.vt_graph.specs.Asked.{all_names}
use Rattle.vt_query.specs.declared.program.Program.{Program}
use Rattle.vt_model_json.specs.Dump.{dump}
use Rattle.vt_history.specs.History.{commit, Step, model_after, tables_after}
use Rattle.vt_session.specs.declared.buffers.Buffer.{Buffer}
use Rattle.vt_session.specs.Buffers.{Denial, refused, begun, changed, aborted}
use Rattle.vt_session.specs.Session.{table_in}
use Rattle.vt_session.specs.Run.{State, IsStart, IsStep, committed, without, after_step}
use Rattle.vt_script.specs.declared.line.Line.{Line}
use Rattle.vt_script.specs.declared.line.Line.TheVariants as line
use Rattle.vt_cli.specs.Replies.{Names, told, denial_text, load_line, AreEventTexts, matches_text}

-- ---- one command

-- what a run is of
pub record Ground : Type 0 where
  pub meta : Metamodel
  pub program : Program

-- the names after a step, those of deleted objects too
abbrev pub names_at : Ground → State → Names
names_at on state = record { enums = enum_names on.meta; objects = all_names (model_after state.steps) }

-- buffers alone change, or the command is refused
abbrev pub BufferReply : List ℕ → List ℕ → Result (List Buffer) Denial → State → State → List ℕ → Type 0
BufferReply word client (Ok buffers) state after text = (after ≡ record state { buffers = buffers }) × (text ≡ told word client (codes "ok"))
BufferReply word client (Err denial) state after text = (after ≡ state) × (text ≡ told word client (denial_text denial))

-- a step, with its events; steps count from 0
pub record StepReply (on : Ground) (client : List ℕ) (g : Model) (state after : State) (text : List ℕ) : Type 0 where
  pub step : Step
  pub is : IsStep on.meta on.program (commit client) g step
  pub leads : after ≡ after_step client step state
  pub events : List ℕ
  pub of : AreEventTexts (names_at on after) (model_after state.steps) g on.program.patterns (tables_after state.steps) step.tables events
  pub says : text ≡ told (codes "commit") client (codes "step " ++ decimal (length state.steps)) ++ events

-- a refused transaction ends its buffer
abbrev pub after_denial : Denial → List ℕ → State → State
after_denial (refused stop) client state = without client state
after_denial denial client state = state

abbrev pub CommitReply : Ground → List ℕ → Result Model Denial → State → State → List ℕ → Type 0
CommitReply on client (Ok g) state after text = StepReply on client g state after text
CommitReply on client (Err denial) state after text =
    (after ≡ after_denial denial client state) × (text ≡ told (codes "commit") client (denial_text denial))

abbrev pub MatchesReply : Names → List ℕ → Option (List (List Value)) → List ℕ → Type 0
MatchesReply names pattern None text = text ≡ told (codes "matches") pattern (codes "refused UnknownPattern")
MatchesReply names pattern (Some rows) text = text ≡ matches_text names pattern rows

-- the state after a command, and the text that is due to it
abbrev pub Replied : Ground → Line → State → State → List ℕ → Type 0
Replied on (line.Begin client) state after text = BufferReply (codes "begin") client (begun client state.buffers) state after text
Replied on (line.Change client change) state after text = BufferReply (codes "change") client (changed client change state.buffers) state after text
Replied on (line.Abort client) state after text = BufferReply (codes "abort") client (aborted client state.buffers) state after text
Replied on (line.Commit client) state after text = CommitReply on client (committed on.meta client state) state after text
Replied on (line.Matches pattern) state after text =
    (after ≡ state) × MatchesReply (names_at on state) pattern (table_in on.program (tables_after state.steps) pattern) text
Replied on line.Dump state after text = (after ≡ state) × (text ≡ dump on.meta (model_after state.steps) ++ codes "\n")
Replied on other state after text = ⊥

-- ---- a script

-- the replies to commands, one after the other
abbrev pub Answered : Ground → List Line → State → List ℕ → Type 0
Answered on [] state text = text ≡ []
Answered on (line ∷ lines) state text = (after : State) × (reply rest : List ℕ)
    × Replied on line state after reply × Answered on lines after rest × (text ≡ reply ++ rest)

-- the load, then the replies
pub record IsRun (on : Ground) (g : Model) (lines : List Line) (text : List ℕ) : Type 0 where
  pub start : State
  pub starts : IsStart on.meta on.program g start
  pub replies : List ℕ
  pub answered : Answered on lines start replies
  pub is : text ≡ load_line ++ replies
