-- A command that is prepared: what it comes to; and a run that has come to a state of its script.
use Rattle.std.specs.Prelude.{◌≡◌, ◌≤◌, ℕ, List, codes, length, false, Option, Result, Ok, Err, IfOk}
use Rattle.std.specs.List.{AllByRecursion}
use Rattle.std.specs.Io.KnownBytes.{Appends}
use Rattle.vt_outside.specs.Sink.{AppendsPrefix}
use Rattle.vt_outside.specs.declared.sink.PutFail.{PutFail}
use Rattle.vt_outside.specs.declared.sink.PutFail.TheVariants as put
use Rattle.vt_model.specs.Base.{counts_of}
use Rattle.vt_model.specs.Storable.{GivesStorable}
use Rattle.vt_query.specs.Narrow.{IsNarrow}
use Rattle.vt_session.specs.declared.buffers.Buffer.{Buffer}
use Rattle.vt_session.specs.Buffers.{Denial}
use Rattle.vt_session.specs.Run.{State, IsStart}
use Rattle.vt_session.specs.Session.{Kept, StandsFor, IsFaultOf}
use Rattle.vt_session.specs.declared.fault.SessionFault.{SessionFault}
use Rattle.vt_session.specs.declared.fault.SessionFault.TheVariants as fault
use Rattle.vt_script.specs.declared.line.Line.{Line}
use Rattle.vt_cli.specs.Unbuilt.{is_unbuilt}
use Rattle.vt_cli.specs.Replies.{told, denial_text}
use Rattle.vt_cli.specs.Running.{Ground, Replied, Answered}
use Rattle.vt_cli.specs.Result.{IsTold}
use Rattle.vt_cli.specs.declared.prepared.Prepared.{Prepared}
use Rattle.vt_cli.specs.declared.prepared.Prepared.TheVariants.{Told, Begun}
use Rattle.vt_cli.specs.declared.ending.Ending.{Ending}
use Rattle.vt_cli.specs.declared.ending.Ending.TheVariants as ending
use Rattle.vt_cli.specs.declared.ending.Outcome.{Outcome}

-- ---- states

abbrev pub ground_of : Kept → Ground
ground_of kept = record { meta = kept.meta; program = kept.program }

-- what the clients' changes give can be held
abbrev pub AreHeld : List Buffer → Type 0
AreHeld buffers = AllByRecursion (λ (b : Buffer). AllByRecursion GivesStorable b.changes) buffers

-- a run over a narrow program has come to a state
pub record IsAt (kept : Kept) (state : State) : Type 0 where
  pub narrow : IsNarrow (counts_of kept.meta) kept.program
  pub stands : StandsFor kept state
  pub held : AreHeld state.buffers

-- no command is one that isn't built
abbrev pub AreBuilt : List Line → Type 0
AreBuilt lines = AllByRecursion (λ (command : Line). is_unbuilt command ≡ false) lines

-- ---- replies

-- a text refuses a call for the reason that its fault stands for; want of memory is told by none
abbrev pub Denies : SessionFault → List ℕ → List ℕ → List ℕ → Type 0
Denies fault.NoMemory word name text = ⊥
Denies fault word name text = (denial : Denial) → IsFaultOf fault denial → text ≡ told word name (denial_text denial)

-- a text tells that a command was done, or why it is refused
abbrev pub Tells : Result (Unit {0}) SessionFault → List ℕ → List ℕ → List ℕ → Type 0
Tells (Ok done) word name text = text ≡ told word name (codes "ok")
Tells (Err why) word name text = Denies why word name text

-- from each state that a run has come to a command leads on, and this is its reply
abbrev pub Replies : {E : Type 0} → Line → Kept → Kept → Result (List ℕ) E → Type 0
Replies line old new result = (state : State) → IsAt old state
    → IfOk result (λ text. (after : State) × Replied (ground_of old) line state after text × IsAt new after)

-- ---- what is put

-- a text was put whole, or a prefix of it
abbrev pub IsPut : Result (Unit {0}) PutFail → Option (List ℕ) → Option (List ℕ) → List ℕ → Type 0
IsPut (Ok done) old new text = Appends old new text
IsPut (Err why) old new text = AppendsPrefix old new text

-- from each state that a run has come to, some text answers all commands, and it was put
abbrev pub PutsReplies : List Line → Kept → Result (Unit {0}) PutFail → Option (List ℕ) → Option (List ℕ) → Type 0
PutsReplies lines kept result old new = (state : State) → IsAt kept state
    → (text : List ℕ) × Answered (ground_of kept) lines state text × IsPut result old new text

-- the ending of a text that was to be put
abbrev pub ended : Ending → Result (Unit {0}) PutFail → Ending
ended due (Ok done) = due
ended due (Err put.Failed) = ending.WriteFault
ended due (Err put.NoMemory) = ending.NoMemory

-- ---- prepared commands

-- a session that has just begun, over commands that are built
pub record IsBegun (kept : Kept) (lines : List Line) : Type 0 where
  pub start : State
  pub starts : IsStart kept.meta kept.program kept.model start
  pub at : IsAt kept start
  pub built : AreBuilt lines
  pub few : length lines ≤ 100000

abbrev pub IsReady : Prepared → Type 0
IsReady (Told outcome) = Unit {0}
IsReady (Begun run) = IsBegun run.session run.lines

-- an outcome, or a text that a run comes to
abbrev pub ComesTo : Prepared → Outcome → Type 0
ComesTo (Told due) outcome = outcome ≡ due
ComesTo (Begun run) outcome = IsTold (record { meta = run.session.meta; model = run.session.model }) run.session.program run.lines outcome

-- there is an outcome already
abbrev pub IsWhole : Prepared → Type 0
IsWhole (Told outcome) = Unit {0}
IsWhole (Begun run) = ⊥
