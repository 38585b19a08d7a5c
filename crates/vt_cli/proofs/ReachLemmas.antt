-- From each state of a run some text answers the commands that are left, whatever memory there is.
use Rattle.std.proofs.Common.{◌≡◌, ℕ, zero, suc, ◌+◌, ◌<◌, List, [], ◌∷◌, ◌++◌, length, false, Option, Some, None, Result, Ok, Err, refl, subst, arith}
use Rattle.std.specs.Prelude.{codes, decimal, slice_get}
use Rattle.vt_base.specs.Rows.{Ascends}
use Rattle.vt_base.specs.declared.value.Value.{Value}
use Rattle.vt_model.specs.Metamodel.{Metamodel}
use Rattle.vt_model.specs.Model.{Model}
use Rattle.vt_model.specs.Base.{counts_of}
use Rattle.vt_query.specs.Holding.{table_of}
use Rattle.vt_query.specs.Narrow.{IsNarrow}
use Rattle.vt_query.specs.Tables.{StandFor}
use Rattle.vt_query.specs.declared.program.Program.{Program}
use Rattle.vt_model_json.specs.Dump.{dump}
use Rattle.vt_history.specs.History.{commit, Step, IsHistory, model_after, tables_after}
use Rattle.vt_session.specs.declared.buffers.Buffer.{Buffer}
use Rattle.vt_session.specs.Buffers.{Denial, already_open, too_many_open, not_open, too_many_changes, refused, begun, changed, aborted}
use Rattle.vt_session.specs.Run.{State, committed, after_step}
use Rattle.vt_session.specs.Session.{Kept, table_in}
use Rattle.vt_script.specs.declared.line.Line.{Line}
use Rattle.vt_script.specs.declared.line.Line.TheVariants as line
use Rattle.vt_cli.specs.Unbuilt.{is_unbuilt}
use Rattle.vt_cli.specs.Replies.{told, denial_text, matches_text}
use Rattle.vt_cli.specs.Running.{Ground, names_at, BufferReply, CommitReply, after_denial, MatchesReply, Replied, Answered}
use Rattle.vt_cli.specs.Inside.Begun.{ground_of, IsAt, AreBuilt}
use Rattle.vt_cli.proofs.SomeEventLemmas.{AllAscend, some_events}

-- ---- tables that stand ascend

ascend_from : (tables : List (List (List Value))) → ((n : ℕ) → n < length tables → Ascends (table_of tables (record { 0 = n }))) → AllAscend tables
ascend_from [] each = tt
ascend_from (table ∷ tables) each = (each 0 (omega arith), ascend_from tables (λ n below. each (suc n) (omega arith)))

found_below : {X : Type 0} (xs : List X) (n : ℕ) → n < length xs → (x : X) × (slice_get xs n ≡ Some x)
found_below [] n below = absurd (omega (arith, below))
found_below (x ∷ xs) zero below = (x, refl)
found_below (x ∷ xs) (suc n) below = found_below xs n (omega (arith, below))

pub AllAscend-stand : (meta : Metamodel) (g : Model) (program : Program) (tables : List (List (List Value)))
    → StandFor meta g program tables → AllAscend tables
AllAscend-stand meta g program tables stand = ascend_from tables (λ n below.
    let found = found_below program.patterns n (subst (λ m. n < m) stand.count below) in
    (stand.each (record { 0 = n }) found.0 found.1).ascends)

-- ---- the tables after the last step

abbrev pub IsTabled : Ground → State → Type 0
IsTabled on state = StandFor on.meta (model_after state.steps) on.program (tables_after state.steps)

tabled_last : (meta : Metamodel) (program : Program) (n : ℕ) (steps : List Step) → IsHistory meta program steps → n + 1 ≡ length steps
    → StandFor meta (model_after steps) program (tables_after steps)
tabled_last meta program n [] history count = absurd (omega (arith, count))
tabled_last meta program n (step ∷ earlier) history count = history 0 step (omega arith)

pub IsTabled-at : (kept : Kept) (state : State) → IsAt kept state → IsTabled (ground_of kept) state
IsTabled-at kept state at = tabled_last kept.meta kept.program kept.step state.steps at.stands.history at.stands.step

-- ---- replies

module _ (on : Ground) (narrow : IsNarrow (counts_of on.meta) on.program)
    (tables_stand : (meta : Metamodel) (g : Model) (program : Program) → IsNarrow (counts_of meta) program
    → (tables : List (List (List Value))) × StandFor meta g program tables) where
  buffer_reply : (word client : List ℕ) (due : Result (List Buffer) Denial) (state : State) → IsTabled on state
      → (after : State) × (text : List ℕ) × BufferReply word client due state after text × IsTabled on after
  buffer_reply word client (Ok buffers) state tabled = (record state { buffers = buffers }, told word client (codes "ok"), (refl, refl), tabled)
  buffer_reply word client (Err denial) state tabled = (state, told word client (denial_text denial), (refl, refl), tabled)

  tabled_denied : (denial : Denial) (client : List ℕ) (state : State) → IsTabled on state → IsTabled on (after_denial denial client state)
  tabled_denied already_open client state tabled = tabled
  tabled_denied too_many_open client state tabled = tabled
  tabled_denied not_open client state tabled = tabled
  tabled_denied too_many_changes client state tabled = tabled
  tabled_denied (refused stop) client state tabled = tabled

  commit_reply : (client : List ℕ) (due : Result Model Denial) (state : State) → IsTabled on state
      → (after : State) × (text : List ℕ) × CommitReply on client due state after text × IsTabled on after
  commit_reply client (Err denial) state tabled =
      (after_denial denial client state, told (codes "commit") client (denial_text denial), (refl, refl), tabled_denied denial client state tabled)
  commit_reply client (Ok g) state tabled =
      let made = tables_stand on.meta g on.program narrow in
      let step : Step = record { cause = commit client; model = g; tables = made.0 } in
      let after = after_step client step state in
      let events = some_events (model_after state.steps) g (names_at on after) on.program.patterns (tables_after state.steps) made.0
      tabled.count made.1.count (AllAscend-stand on.meta (model_after state.steps) on.program (tables_after state.steps) tabled) (AllAscend-stand on.meta g on.program made.0 made.1) in (
        after,
        told (codes "commit") client (codes "step " ++ decimal (length state.steps)) ++ events.0,
        record {
          step = step;
          is = record { caused = refl; model = refl; tables = made.1 };
          leads = refl;
          events = events.0;
          of = events.1;
          says = refl;
        },
        made.1,
      )

  matches_reply : (pattern : List ℕ) (found : Option (List (List Value))) (state : State) → (text : List ℕ) × MatchesReply (names_at on state) pattern found text
  matches_reply pattern None state = (told (codes "matches") pattern (codes "refused UnknownPattern"), refl)
  matches_reply pattern (Some rows) state = (matches_text (names_at on state) pattern rows, refl)

  line_reply : (l : Line) (state : State) → is_unbuilt l ≡ false → IsTabled on state
      → (after : State) × (text : List ℕ) × Replied on l state after text × IsTabled on after
  line_reply (line.Begin client) state built tabled = buffer_reply (codes "begin") client (begun client state.buffers) state tabled
  line_reply (line.Change client change) state built tabled = buffer_reply (codes "change") client (changed client change state.buffers) state tabled
  line_reply (line.Abort client) state built tabled = buffer_reply (codes "abort") client (aborted client state.buffers) state tabled
  line_reply (line.Commit client) state built tabled = commit_reply client (committed on.meta client state) state tabled
  line_reply (line.Matches pattern) state built tabled =
      let reply = matches_reply pattern (table_in on.program (tables_after state.steps) pattern) state in
      (state, reply.0, (refl, reply.1), tabled)
  line_reply line.Dump state built tabled = (state, dump on.meta (model_after state.steps) ++ codes "\n", (refl, refl), tabled)
  line_reply (line.Fire agenda n) state built tabled = absurd (let none : ⊥ = cc in none)
  line_reply (line.Swap agenda kind) state built tabled = absurd (let none : ⊥ = cc in none)
  line_reply (line.Activations agenda) state built tabled = absurd (let none : ⊥ = cc in none)
  line_reply (line.Group pattern column rest) state built tabled = absurd (let none : ⊥ = cc in none)

  -- ---- scripts

  pub some_answer : (lines : List Line) (state : State) → AreBuilt lines → IsTabled on state → (text : List ℕ) × Answered on lines state text
  some_answer [] state built tabled = ([], refl)
  some_answer (l ∷ lines) state built tabled =
      let first = line_reply l state built.0 tabled in
      let rest = some_answer lines first.0 built.1 first.3 in
      (first.1 ++ rest.0, (first.0, first.1, rest.0, first.2, rest.1, refl))
