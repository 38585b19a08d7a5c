-- Commands that are answered one after the other, and what was put of their replies.
use Rattle.std.proofs.Common.{◌≡◌, ℕ, ◌+◌, ◌≤◌, ◌<◌, List, [], ◌∷◌, ◌++◌, length, Option, Result, Ok, Err, refl, sym, ap, subst, ◌∙◌, arith, append_assoc, append-nil}
use Rattle.std.specs.Prelude.{codes, drop}
use Rattle.std.specs.List.{slice_index_or}
use Rattle.std.proofs.lemmas.List.{at_drop_more}
use Rattle.std.specs.Io.KnownBytes.{Appends}
use Rattle.std.proofs.KnownBytes.{Appends-nil, Appends-trans}
use Rattle.vt_base.specs.declared.value.Value.{Value}
use Rattle.vt_outside.specs.Sink.{AppendsPrefix}
use Rattle.vt_outside.specs.declared.sink.PutFail.{PutFail}
use Rattle.vt_model.specs.Metamodel.{Metamodel}
use Rattle.vt_model.specs.Model.{Model}
use Rattle.vt_model.specs.Base.{counts_of}
use Rattle.vt_query.specs.Narrow.{IsNarrow}
use Rattle.vt_query.specs.Tables.{StandFor}
use Rattle.vt_query.specs.declared.program.Program.{Program}
use Rattle.vt_session.specs.declared.buffers.Buffer.{Buffer}
use Rattle.vt_session.specs.Buffers.{Denial, already_open, too_many_open, not_open, too_many_changes, refused, begun, changed, aborted}
use Rattle.vt_session.specs.Run.{State, committed}
use Rattle.vt_session.specs.Session.{Kept, IsOfOne}
use Rattle.vt_script.specs.declared.line.Line.{Line}
use Rattle.vt_script.specs.declared.line.Line.TheVariants as line
use Rattle.vt_cli.specs.Replies.{load_line}
use Rattle.vt_cli.specs.Running.{Ground, BufferReply, CommitReply, after_denial, Replied, Answered, IsRun}
use Rattle.vt_cli.specs.Inside.Begun.{ground_of, IsAt, AreBuilt, IsPut, PutsReplies, IsBegun}
use Rattle.vt_cli.proofs.PutLemmas.{front_after, front_within, front_only}
use Rattle.vt_cli.proofs.ReachLemmas.{IsTabled, IsTabled-at, some_answer}

-- ---- a command makes one step at most

same_steps : (word client : List ℕ) (due : Result (List Buffer) Denial) (state after : State) (text : List ℕ) → BufferReply word client due state after text
    → length after.steps ≤ length state.steps + 1
same_steps word client (Ok buffers) state after text reply = subst (λ (s : State). length s.steps ≤ length state.steps + 1) (sym reply.0) (omega arith)
same_steps word client (Err denial) state after text reply = subst (λ (s : State). length s.steps ≤ length state.steps + 1) (sym reply.0) (omega arith)

denied_steps : (denial : Denial) (client : List ℕ) (state : State) → length ((after_denial denial client state).steps) ≤ length state.steps + 1
denied_steps already_open client state = omega arith
denied_steps too_many_open client state = omega arith
denied_steps not_open client state = omega arith
denied_steps too_many_changes client state = omega arith
denied_steps (refused stop) client state = omega arith

one_step : (on : Ground) (client : List ℕ) (due : Result Model Denial) (state after : State) (text : List ℕ) → CommitReply on client due state after text
    → length after.steps ≤ length state.steps + 1
one_step on client (Ok g) state after text reply = subst (λ (s : State). length s.steps ≤ length state.steps + 1) (sym reply.leads) (omega arith)
one_step on client (Err denial) state after text reply =
    subst (λ (s : State). length s.steps ≤ length state.steps + 1) (sym reply.0) (denied_steps denial client state)

replied_steps : (on : Ground) (l : Line) (state after : State) (text : List ℕ) → Replied on l state after text → length after.steps ≤ length state.steps + 1
replied_steps on (line.Begin client) state after text reply = same_steps (codes "begin") client (begun client state.buffers) state after text reply
replied_steps on (line.Change client change) state after text reply = same_steps (codes "change") client (changed client change state.buffers) state after text reply
replied_steps on (line.Abort client) state after text reply = same_steps (codes "abort") client (aborted client state.buffers) state after text reply
replied_steps on (line.Commit client) state after text reply = one_step on client (committed on.meta client state) state after text reply
replied_steps on (line.Matches pattern) state after text reply = subst (λ (s : State). length s.steps ≤ length state.steps + 1) (sym reply.0) (omega arith)
replied_steps on line.Dump state after text reply = subst (λ (s : State). length s.steps ≤ length state.steps + 1) (sym reply.0) (omega arith)
replied_steps on (line.Fire agenda n) state after text reply = absurd reply
replied_steps on (line.Swap agenda kind) state after text reply = absurd reply
replied_steps on (line.Activations agenda) state after text reply = absurd reply
replied_steps on (line.Group pattern column rest) state after text reply = absurd reply

-- ---- IsOfOne

pub IsOfOne-self : (kept : Kept) → IsOfOne kept kept
IsOfOne-self kept = record { meta = refl; program = refl }

pub IsOfOne-then : (a b c : Kept) → IsOfOne a b → IsOfOne b c → IsOfOne a c
IsOfOne-then a b c first second = record { meta = second.meta ∙ first.meta; program = second.program ∙ first.program }

ground-same : (a b : Kept) → IsOfOne a b → ground_of b ≡ ground_of a
ground-same a b one i = record { meta = one.meta i; program = one.program i }

-- ---- the commands that are left

-- the command at a place, and those behind it
pub split_at : (lines : List Line) (i : ℕ) (l : Line) → i < length lines → l ≡ slice_index_or lines i l → drop i lines ≡ l ∷ drop (i + 1) lines
split_at lines i l within is = at_drop_more (λ (ls : List Line). ls) lines i l within ∙ ap (λ x. x ∷ drop (i + 1) lines) (sym is)

-- ---- so far

-- from a state some commands were answered, and what answers the rest goes on with that
pub record HasAnswered (first kept : Kept) (lines rest : List Line) (old new : Option (List ℕ)) (done : ℕ) (state : State) : Type 0 where
  pub now : State
  pub at : IsAt kept now
  pub text : List ℕ
  pub put : Appends old new text
  pub few : length now.steps ≤ length state.steps + done
  pub goes_on : (more : List ℕ) → Answered (ground_of first) rest now more → Answered (ground_of first) lines state (text ++ more)

pub answered_none : (kept : Kept) (lines : List Line) (told : Option (List ℕ)) (state : State) → IsAt kept state → HasAnswered kept kept lines lines told told 0 state
answered_none kept lines told state at = record {
  now = state;
  at = at;
  text = [];
  put = Appends-nil told;
  few = omega arith;
  goes_on = λ more answered. answered;
}

-- the number of steps that the session has made
pub step_few : (first kept : Kept) (lines rest : List Line) (old new : Option (List ℕ)) (done : ℕ) (state : State)
    → IsAt first state → HasAnswered first kept lines rest old new done state → kept.step ≤ first.step + done
step_few first kept lines rest old new done state at so_far =
    let a : kept.step + 1 ≡ length so_far.now.steps = so_far.at.stands.step in
    let b : first.step + 1 ≡ length state.steps = at.stands.step in
    let c : length so_far.now.steps ≤ length state.steps + done = so_far.few in
    omega (arith, a, b, c)

module _ (first kept : Kept) (one : IsOfOne first kept) (lines rest : List Line) (old mid : Option (List ℕ)) (done : ℕ) (state : State) where
  -- the last of them
  pub all_answered : HasAnswered first kept lines [] old mid done state → (text : List ℕ) × Answered (ground_of first) lines state text × Appends old mid text
  all_answered so_far =
      (so_far.text, subst (Answered (ground_of first) lines state) (append-nil so_far.text) (so_far.goes_on [] refl), so_far.put)

  -- one more
  module _ (l : Line) (so_far : HasAnswered first kept lines (l ∷ rest) old mid done state) (next : Kept) (text : List ℕ)
      (reply : (s : State) → IsAt kept s → (after : State) × Replied (ground_of kept) l s after text × IsAt next after) where
    led : (after : State) × Replied (ground_of first) l so_far.now after text × IsAt next after
    led =
        let r = reply so_far.now so_far.at in
        (r.0, subst (λ on. Replied on l so_far.now r.0 text) (ground-same first kept one) r.1, r.2)

    further : (more : List ℕ) → Answered (ground_of first) rest led.0 more → Answered (ground_of first) lines state ((so_far.text ++ text) ++ more)
    further more answered =
        subst (Answered (ground_of first) lines state) (sym (append_assoc so_far.text text more))
        (so_far.goes_on (text ++ more) (led.0, text, more, led.1, answered, refl))

    pub answered_more : (new : Option (List ℕ)) → Appends mid new text → HasAnswered first next lines rest old new (done + 1) state
    answered_more new put =
        let count : length led.0.steps ≤ length so_far.now.steps + 1 = replied_steps (ground_of first) l so_far.now led.0 text led.1 in
        let few : length so_far.now.steps ≤ length state.steps + done = so_far.few in
        record {
          now = led.0;
          at = led.2;
          text = so_far.text ++ text;
          put = Appends-trans old mid new so_far.text text so_far.put put;
          few = omega (arith, count, few);
          goes_on = further;
        }

-- ---- where it ends early

module _ (first : Kept) (narrow : IsNarrow (counts_of first.meta) first.program)
    (tables_stand : (meta : Metamodel) (g : Model) (program : Program) → IsNarrow (counts_of meta) program
    → (tables : List (List (List Value))) × StandFor meta g program tables)
    (kept : Kept) (one : IsOfOne first kept) (lines rest : List Line) (old mid : Option (List ℕ)) (done : ℕ) (state : State) where
  -- nothing of the reply was put
  pub cut_before : AreBuilt rest → HasAnswered first kept lines rest old mid done state
      → (text : List ℕ) × Answered (ground_of first) lines state text × AppendsPrefix old mid text
  cut_before built so_far =
      let tabled = subst (λ on. IsTabled on so_far.now) (ground-same first kept one) (IsTabled-at kept so_far.now so_far.at) in
      let more = some_answer (ground_of first) narrow tables_stand rest so_far.now built tabled in
      (so_far.text ++ more.0, so_far.goes_on more.0 more.1, front_only old mid so_far.text more.0 so_far.put)

  -- a front of it was put
  pub cut_within : (l : Line) → AreBuilt rest → HasAnswered first kept lines (l ∷ rest) old mid done state → (next : Kept) → IsOfOne kept next → (reply : List ℕ)
      → ((s : State) → IsAt kept s → (after : State) × Replied (ground_of kept) l s after reply × IsAt next after)
      → (new : Option (List ℕ)) → AppendsPrefix mid new reply
      → (text : List ℕ) × Answered (ground_of first) lines state text × AppendsPrefix old new text
  cut_within l built so_far next further reply replies new part =
      let led = replies so_far.now so_far.at in
      let tabled = subst (λ on. IsTabled on led.0) (ground-same first next (IsOfOne-then first kept next one further)) (IsTabled-at next led.0 led.2) in
      let more = some_answer (ground_of first) narrow tables_stand rest led.0 built tabled in
      let replied = subst (λ on. Replied on l so_far.now led.0 reply) (ground-same first kept one) led.1 in (
        so_far.text ++ (reply ++ more.0),
        so_far.goes_on (reply ++ more.0) (led.0, reply, more.0, replied, more.1, refl),
        front_after old mid new so_far.text (reply ++ more.0) so_far.put (front_within mid new reply more.0 part),
      )

-- ---- with the load

module _ (kept : Kept) (lines : List Line) (begun : IsBegun kept lines) where
  pub step_zero : kept.step ≡ 0
  step_zero =
      let a : kept.step + 1 ≡ length begun.start.steps = begun.at.stands.step in
      let b : length begun.start.steps ≡ 1 = ap (λ (s : State). length s.steps) begun.starts.is in
      omega (arith, a, b)

  run_of : (replies : List ℕ) → Answered (ground_of kept) lines begun.start replies → IsRun (ground_of kept) kept.model lines (load_line ++ replies)
  run_of replies answered = record { start = begun.start; starts = begun.starts; replies = replies; answered = answered; is = refl }

  pub run_put : (result : Result (Unit {0}) PutFail) (old mid new : Option (List ℕ)) → Appends old mid load_line → PutsReplies lines kept result mid new
      → (text : List ℕ) × IsRun (ground_of kept) kept.model lines text × IsPut result old new text
  run_put (Ok done) old mid new load puts =
      let r = puts begun.start begun.at in
      (load_line ++ r.0, run_of r.0 r.1, Appends-trans old mid new load_line r.0 load r.2)
  run_put (Err why) old mid new load puts =
      let r = puts begun.start begun.at in
      (load_line ++ r.0, run_of r.0 r.1, front_after old mid new load_line r.0 load r.2)

  pub run_cut : ((meta : Metamodel) (g : Model) (program : Program) → IsNarrow (counts_of meta) program
      → (tables : List (List (List Value))) × StandFor meta g program tables)
      → (old new : Option (List ℕ)) → AppendsPrefix old new load_line
      → (text : List ℕ) × IsRun (ground_of kept) kept.model lines text × AppendsPrefix old new text
  run_cut tables_stand old new part =
      let more = some_answer (ground_of kept) begun.at.narrow tables_stand lines begun.start begun.built (IsTabled-at kept begun.start begun.at) in
      (load_line ++ more.0, run_of more.0 more.1, front_within old new load_line more.0 part)
