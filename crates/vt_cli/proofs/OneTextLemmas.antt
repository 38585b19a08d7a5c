-- At most one text is due to a run.
use Rattle.std.proofs.Common.{◌≡◌, ℕ, List, [], ◌∷◌, ◌++◌, length, Option, Some, None, Result, Ok, Err, sym, ap, subst, ◌∙◌}
use Rattle.std.specs.Prelude.{codes, decimal}
use Rattle.vt_base.specs.declared.value.Value.{Value}
use Rattle.vt_model.specs.Model.{Model}
use Rattle.vt_query.specs.Tables.{StandFor}
use Rattle.vt_history.specs.History.{Cause, Step, load, commit, model_after, tables_after}
use Rattle.vt_session.specs.declared.buffers.Buffer.{Buffer}
use Rattle.vt_session.specs.Buffers.{Denial, begun, changed, aborted}
use Rattle.vt_session.specs.Run.{State, IsStep, committed, after_step}
use Rattle.vt_session.specs.Session.{table_in}
use Rattle.vt_script.specs.declared.line.Line.{Line}
use Rattle.vt_script.specs.declared.line.Line.TheVariants as line
use Rattle.vt_cli.specs.Replies.{told, load_line, AreEventTexts}
use Rattle.vt_cli.specs.Running.{Ground, names_at, BufferReply, StepReply, CommitReply, MatchesReply, Replied, Answered, IsRun}
use Rattle.vt_cli.proofs.EventLemmas.{one_events}

module _ (on : Ground)
    (one_list : (g : Model) (tables others : List (List (List Value))) → StandFor on.meta g on.program tables → StandFor on.meta g on.program others → tables ≡ others) where
  -- a step's cause and its model decide it
  same_step : (cause : Cause) (g : Model) (step other : Step) → IsStep on.meta on.program cause g step → IsStep on.meta on.program cause g other → step ≡ other
  same_step cause g step other a b =
      let why = a.caused ∙ sym b.caused in
      let model = a.model ∙ sym b.model in
      let tables = one_list g step.tables other.tables a.tables b.tables in
      λ i. record { cause = why i; model = model i; tables = tables i }

  -- ---- one state and one text after a command

  abbrev AreOne : (State → List ℕ → Type 0) → Type 0
  AreOne reply = (after other : State) (text too : List ℕ) → reply after text → reply other too → (after ≡ other) × (text ≡ too)

  one_buffer : (word client : List ℕ) (due : Result (List Buffer) Denial) (state : State) → AreOne (BufferReply word client due state)
  one_buffer word client (Ok buffers) state after other text too a b = (a.0 ∙ sym b.0, a.1 ∙ sym b.1)
  one_buffer word client (Err denial) state after other text too a b = (a.0 ∙ sym b.0, a.1 ∙ sym b.1)

  one_step : (client : List ℕ) (g : Model) (state : State) → AreOne (StepReply on client g state)
  one_step client g state after other text too a b =
      let step : a.step ≡ b.step = same_step (commit client) g a.step b.step a.is b.is in
      let states : after ≡ other = a.leads ∙ ap (λ s. after_step client s state) step ∙ sym b.leads in
      let events_for : State → Step → List ℕ → Type 0 = λ s t events. AreEventTexts (names_at on s) (model_after state.steps) g on.program.patterns (tables_after state.steps) t.tables events in
      let moved : events_for after a.step b.events = subst (λ s. events_for s a.step b.events) (sym states) (subst (λ t. events_for other t b.events) (sym step) b.of) in
      let events : a.events ≡ b.events =
      one_events (names_at on after) (model_after state.steps) g on.program.patterns (tables_after state.steps) a.step.tables a.events b.events a.of moved in
      (states, a.says ∙ ap (λ events. told (codes "commit") client (codes "step " ++ decimal (length state.steps)) ++ events) events ∙ sym b.says)

  one_commit : (client : List ℕ) (due : Result Model Denial) (state : State) → AreOne (CommitReply on client due state)
  one_commit client (Ok g) state after other text too a b = one_step client g state after other text too a b
  one_commit client (Err denial) state after other text too a b = (a.0 ∙ sym b.0, a.1 ∙ sym b.1)

  one_matches : (state : State) (pattern : List ℕ) (found : Option (List (List Value))) (text too : List ℕ)
      → MatchesReply (names_at on state) pattern found text → MatchesReply (names_at on state) pattern found too → text ≡ too
  one_matches state pattern None text too a b = a ∙ sym b
  one_matches state pattern (Some rows) text too a b = a ∙ sym b

  one_reply : (l : Line) (state : State) → AreOne (Replied on l state)
  one_reply (line.Begin client) state after other text too a b = one_buffer (codes "begin") client (begun client state.buffers) state after other text too a b
  one_reply (line.Change client change) state after other text too a b = one_buffer (codes "change") client (changed client change state.buffers) state after other text too a b
  one_reply (line.Abort client) state after other text too a b = one_buffer (codes "abort") client (aborted client state.buffers) state after other text too a b
  one_reply (line.Commit client) state after other text too a b = one_commit client (committed on.meta client state) state after other text too a b
  one_reply (line.Matches pattern) state after other text too a b =
      (a.0 ∙ sym b.0, one_matches state pattern (table_in on.program (tables_after state.steps) pattern) text too a.1 b.1)
  one_reply line.Dump state after other text too a b = (a.0 ∙ sym b.0, a.1 ∙ sym b.1)
  one_reply (line.Fire agenda n) state after other text too a b = absurd a
  one_reply (line.Swap agenda kind) state after other text too a b = absurd a
  one_reply (line.Activations agenda) state after other text too a b = absurd a
  one_reply (line.Group pattern column rest) state after other text too a b = absurd a

  -- ---- scripts

  one_answer : (lines : List Line) (state : State) (text too : List ℕ) → Answered on lines state text → Answered on lines state too → text ≡ too
  one_answer [] state text too a b = a ∙ sym b
  one_answer (l ∷ lines) state text too a b =
      let first = one_reply l state a.0 b.0 a.1 b.1 a.3 b.3 in
      let rest = one_answer lines a.0 a.2 b.2 a.4 (subst (λ s. Answered on lines s b.2) (sym first.0) b.4) in
      a.5 ∙ ap (λ x. x ++ a.2) first.1 ∙ ap (λ x. b.1 ++ x) rest ∙ sym b.5

  pub one_text : (g : Model) (lines : List Line) (text too : List ℕ) → IsRun on g lines text → IsRun on g lines too → text ≡ too
  one_text g lines text too a b =
      let step : a.starts.step ≡ b.starts.step = same_step load g a.starts.step b.starts.step a.starts.loads b.starts.loads in
      let start : a.start ≡ b.start = a.starts.is ∙ ap (λ (s : Step). record { steps = s ∷ []; buffers = [] }) step ∙ sym b.starts.is in
      let replies = one_answer lines a.start a.replies b.replies a.answered (subst (λ s. Answered on lines s b.replies) (sym start) b.answered) in
      a.is ∙ ap (λ x. load_line ++ x) replies ∙ sym b.is
