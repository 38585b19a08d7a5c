-- A session, and the state of the run that it stands for.
use Rattle.std.proofs.Common.{◌≡◌, ℕ, suc, ◌+◌, List, ◌∷◌, length, Some, None, Result, Ok, Err, refl, sym, ap, subst, ◌∙◌, arith}
use Rattle.std.specs.Prelude.{◌&&◌, Bool, IfErr, OnOk, map, position, slice_get, option_map, option_and_then}
use Rattle.std.proofs.lemmas.Option.{slice_get-map}
use Rattle.vt_facts.specs.Names.{is_name}
use Rattle.vt_query.specs.declared.program.Pattern.{Pattern}
use Rattle.std.proofs.lemmas.List.Elements.{All-cons}
use Rattle.vt_base.specs.declared.value.Value.{Value}
use Rattle.vt_model.specs.Model.{Model}
use Rattle.vt_model.specs.Touched.{AreTouched}
use Rattle.vt_model.specs.Transaction.{Stop, transaction}
use Rattle.vt_model.specs.declared.change.Refusal.{Refusal}
use Rattle.vt_query.specs.Tables.{StandFor}
use Rattle.vt_history.specs.History.{commit, Step, IsHistory, tables_after}
use Rattle.vt_history.specs.Report.{AreOfPatterns}
use Rattle.vt_history.specs.declared.report.StepReport.{StepReport}
use Rattle.vt_session.specs.declared.buffers.Buffer.{Buffer}
use Rattle.vt_session.specs.declared.fault.SessionFault.{SessionFault}
use Rattle.vt_session.specs.declared.fault.SessionFault.TheVariants as fault
use Rattle.vt_session.specs.Buffers.{Denial, not_open, buffer_of, without_buffer}
use Rattle.vt_session.specs.Run.{State, committed, committed_from, refused_at, without}
use Rattle.vt_session.specs.Session.{Kept, StandsFor, IsDenied, HasBuffers, Commits, table_named}
use Rattle.vt_session.specs.Inside.Next.{IsNext}

-- ---- calls that change buffers alone

module _ (old : Kept) (buffers : List Buffer) (state : State) (stands : StandsFor old state) (due : List Buffer → Result (List Buffer) Denial) where
  pub has_buffers : {A E : Type 0} (result : Result A E) → OnOk result (due old.buffers ≡ Ok buffers) → OnOk result (HasBuffers (due state.buffers) state (record old { buffers = buffers }))
  has_buffers (Ok x) is = record {
    buffers = buffers;
    is = sym (ap due stands.buffers) ∙ is;
    stands = record { history = stands.history; model = stands.model; tables = stands.tables; step = stands.step; buffers = refl };
  }
  has_buffers (Err e) is = tt

  pub is_denied : {A : Type 0} (result : Result A SessionFault) → IfErr result (λ why. IsDenied why (due old.buffers)) → IfErr result (λ why. IsDenied why (due state.buffers))
  is_denied result is = subst (λ held. IfErr result (λ why. IsDenied why (due held))) stands.buffers is

-- ---- commits

module _ (client : List ℕ) (old : Kept) (state : State) (stands : StandsFor old state) where
  by_state : committed old.meta client state ≡ committed_from old.meta old.model (buffer_of client old.buffers)
  by_state =
      ap (λ g. committed_from old.meta g (buffer_of client state.buffers)) (sym stands.model)
      ∙ ap (λ buffers. committed_from old.meta old.model (buffer_of client buffers)) (sym stands.buffers)

  -- what is due where the client has no buffer
  pub not_open_due : buffer_of client old.buffers ≡ None → IsDenied fault.NotOpen (committed old.meta client state)
  not_open_due none = (not_open, by_state ∙ ap (committed_from old.meta old.model) none, refl)

  -- and where it has one
  pub made_due : (b : Buffer) (r : Result Model Stop) → buffer_of client old.buffers ≡ Some b → transaction old.meta old.model b.changes ≡ r → committed old.meta client state ≡ refused_at r
  made_due b r found is = by_state ∙ ap (committed_from old.meta old.model) found ∙ ap refused_at is

  pub refused_due : (b : Buffer) (at : ℕ) (why : Refusal) → buffer_of client old.buffers ≡ Some b → transaction old.meta old.model b.changes ≡ Err (record { at = at; why = why })
      → IsDenied (fault.Refused at why) (committed old.meta client state)
  refused_due b at why found is = (_, made_due b (Err (record { at = at; why = why })) found is, refl)

  module _ (new : Kept) (meta : new.meta ≡ old.meta) (program : new.program ≡ old.program) where
    as_history : (steps : List Step) → IsHistory old.meta old.program steps → IsHistory new.meta new.program steps
    as_history steps history = subst (λ m. IsHistory m new.program steps) (sym meta) (subst (λ p. IsHistory old.meta p steps) (sym program) history)

    -- the buffer ends, and all else is as before
    pub stands_without : new.model ≡ old.model → new.tables ≡ old.tables → new.step ≡ old.step → new.buffers ≡ without_buffer client old.buffers → StandsFor new (without client state)
    stands_without model tables step buffers = record {
      history = as_history state.steps stands.history;
      model = model ∙ stands.model;
      tables = tables ∙ stands.tables;
      step = ap (λ n. n + 1) step ∙ stands.step;
      buffers = buffers ∙ ap (without_buffer client) stands.buffers;
    }

    -- the buffer becomes a step
    pub commits : (b : Buffer) (report : StepReport) → buffer_of client old.buffers ≡ Some b → transaction old.meta old.model b.changes ≡ Ok new.model
        → IsNext old.meta old.program old.model new.model old.tables new.tables (old.step + 1) report
        → new.step ≡ old.step + 1 → new.buffers ≡ without_buffer client old.buffers → Commits client state report old new
    commits b report found made next step buffers = record {
      model = new.model;
      due = made_due b (Ok new.model) found made;
      step = the_step;
      is = record { caused = refl; model = refl; tables = next.tables };
      reports = record {
        number = next.number_is ∙ stands.step;
        events = subst (λ g. AreOfPatterns g new.model (tables_after state.steps) new.tables report.events) stands.model (subst (λ tables. AreOfPatterns old.model new.model tables new.tables report.events) stands.tables next.events);
        touched = subst (λ g. AreTouched g new.model report.touched) stands.model next.touched;
        fired = next.fired;
      };
      stands = record {
        history = as_history (the_step ∷ state.steps) (All-cons (λ (s : Step). StandFor old.meta s.model old.program s.tables) the_step state.steps next.tables stands.history);
        model = refl;
        tables = refl;
        step = later (length state.steps) stands.step;
        buffers = buffers ∙ ap (without_buffer client) stands.buffers;
      };
    }
      where
        the_step : Step
        the_step = record { cause = commit client; model = new.model; tables = new.tables }

        later : (n : ℕ) → old.step + 1 ≡ n → new.step + 1 ≡ suc n
        later n is = omega (arith, step, is)

-- ---- what is read

-- the pattern of the name that isn't private
abbrev pub is_shown : List ℕ → Pattern → Bool
is_shown name p = p.shown && is_name p.name name

module _ {X : Type 0} (f : X → List (List Value)) (kept : Kept) (tables : List X) (name : List ℕ) (same : kept.tables ≡ map f tables) where
  pub named_at : (i : ℕ) → position (is_shown name) kept.program.patterns ≡ Some i → option_map f (slice_get tables i) ≡ table_named kept name
  named_at i at =
      sym (slice_get-map f tables i) ∙ ap (λ all. slice_get all i) (sym same) ∙ sym (ap (option_and_then (slice_get kept.tables)) at)

pub none_named : (kept : Kept) (name : List ℕ) → position (is_shown name) kept.program.patterns ≡ None → None ≡ table_named kept name
none_named kept name none = sym (ap (option_and_then (slice_get kept.tables)) none)
