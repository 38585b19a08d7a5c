-- What a session's answers and the texts of replies say of a run.
use Rattle.std.proofs.Common.{◌≡◌, ◌⊎◌, ℕ, ◌+◌, List, ◌++◌, length, Option, Some, None, Result, Ok, Err, refl, sym, ap, subst, ◌∙◌, inl, inr}
use Rattle.std.specs.Prelude.{OnOk, OnErr, IfOk, IfErr, codes, decimal}
use Rattle.vt_base.specs.declared.value.Value.{Value}
use Rattle.vt_model.specs.Metamodel.{Metamodel, enum_names}
use Rattle.vt_model.specs.Model.{Model}
use Rattle.vt_model.specs.Base.{counts_of}
use Rattle.vt_model.specs.Transaction.{Stop, transaction}
use Rattle.vt_model.specs.declared.change.Refusal.{Refusal}
use Rattle.vt_graph.specs.Asked.{all_names}
use Rattle.vt_query.specs.Narrow.{IsNarrow}
use Rattle.vt_query.specs.declared.program.Program.{Program}
use Rattle.vt_history.specs.History.{model_after, tables_after}
use Rattle.vt_history.specs.declared.report.StepReport.{StepReport}
use Rattle.vt_session.specs.declared.buffers.Buffer.{Buffer}
use Rattle.vt_session.specs.Buffers.{Denial, already_open, too_many_open, not_open, too_many_changes, refused, buffer_of}
use Rattle.vt_session.specs.Run.{State, committed, committed_from, refused_at, without, after_step}
use Rattle.vt_session.specs.Session.{Kept, table_in, StandsFor, IsOfOne, IsFaultOf, IsDenied, HasBuffers, Commits}
use Rattle.vt_session.specs.declared.fault.SessionFault.{SessionFault}
use Rattle.vt_session.specs.declared.fault.SessionFault.TheVariants as fault
use Rattle.vt_query.specs.declared.program.Pattern.{Pattern}
use Rattle.vt_cli.specs.Replies.{Names, told, denial_text, matches_text, AreEventTexts}
use Rattle.vt_cli.specs.Running.{names_at, BufferReply, CommitReply, MatchesReply, after_denial}
use Rattle.vt_cli.specs.Inside.Marks.{all_marked}
use Rattle.vt_cli.specs.Inside.Begun.{ground_of, AreHeld, IsAt, Denies, Tells}
use Rattle.vt_cli.proofs.HeldLemmas.{held-without}
use Rattle.vt_cli.proofs.EventLemmas.{Each, AreEventTexts-marked, each_from}
use Rattle.vt_cli.proofs.ReachLemmas.{IsTabled-at}

-- ---- IfOk

pub IfOk-map : {T E : Type 0} (r : Result T E) (P Q : T → Type 0) → ((x : T) → P x → Q x) → IfOk r P → IfOk r Q
IfOk-map (Ok x) P Q follows p = follows x p
IfOk-map (Err e) P Q follows p = p

pub IfErr-map : {T E : Type 0} (r : Result T E) (P Q : E → Type 0) → ((e : E) → P e → Q e) → IfErr r P → IfErr r Q
IfErr-map (Ok x) P Q follows p = p
IfErr-map (Err e) P Q follows p = follows e p

-- ---- denials

-- what is told of a buffer that isn't there
pub denied_not_open : (due : Result (List Buffer) Denial) (why : SessionFault) → (why ≡ fault.NotOpen) × (due ≡ Err not_open) → IsDenied why due
denied_not_open due why p = subst (λ w. IsDenied w due) (sym p.0) (not_open, p.1, refl)

-- the denial that is due, and the text that tells it
pub record IsDenial {A : Type 0} (due : Result A Denial) (why : SessionFault) (word name text : List ℕ) : Type 0 where
  pub denial : Denial
  pub is : due ≡ Err denial
  pub of : IsFaultOf why denial
  pub says : text ≡ told word name (denial_text denial)

pub denied : {A : Type 0} (due : Result A Denial) (why : SessionFault) (word name text : List ℕ)
    → IsDenied why due → Denies why word name text → IsDenial due why word name text
denied due fault.AlreadyOpen word name text d says = record { denial = d.0; is = d.1; of = d.2; says = says d.0 d.2 }
denied due fault.TooManyOpen word name text d says = record { denial = d.0; is = d.1; of = d.2; says = says d.0 d.2 }
denied due fault.NotOpen word name text d says = record { denial = d.0; is = d.1; of = d.2; says = says d.0 d.2 }
denied due fault.TooManyChanges word name text d says = record { denial = d.0; is = d.1; of = d.2; says = says d.0 d.2 }
denied due (fault.Refused at why) word name text d says = record { denial = d.0; is = d.1; of = d.2; says = says d.0 d.2 }
denied due fault.NoMemory word name text d says = absurd says

-- the text that tells a refused transaction
pub says_refused : {E : Type 0} (r : Result (List ℕ) E) (at : ℕ) (why : Refusal) (word name what : List ℕ)
    → what ≡ denial_text (refused (record { at = at; why = why })) → IfOk r (λ text. text ≡ told word name what)
    → IfOk r (λ text. Denies (fault.Refused at why) word name text)
says_refused r at why word name what is said =
    IfOk-map r (λ text. text ≡ told word name what) (λ text. Denies (fault.Refused at why) word name text)
    (λ text says denial of. says ∙ ap (told word name) (is ∙ ap denial_text (sym of))) said

-- ---- matches

pub matches_replied : (kept : Kept) (state : State) (name : List ℕ) (rows : List (List Value)) (meta : Metamodel) (g : Model) (text : List ℕ)
    → meta ≡ kept.meta → g ≡ kept.model → IsAt kept state → table_in kept.program kept.tables name ≡ Some rows
    → text ≡ matches_text (record { enums = enum_names meta; objects = all_names g }) name rows
    → (after : State) × ((after ≡ state) × MatchesReply (names_at (ground_of kept) state) name (table_in kept.program (tables_after state.steps) name) text) × IsAt kept after
matches_replied kept state name rows meta g text meta_is g_is at asked is =
    let found : table_in kept.program (tables_after state.steps) name ≡ Some rows = ap (λ t. table_in kept.program t name) (sym at.stands.tables) ∙ asked in
    let names : Metamodel → Model → Names = λ m h. record { enums = enum_names m; objects = all_names h } in (
      state,
      (
        refl,
        subst (λ r. MatchesReply (names_at (ground_of kept) state) name r text) (sym found)
            (is ∙ ap (λ m. matches_text (names m g) name rows) meta_is ∙ ap (λ h. matches_text (names kept.meta h) name rows) (g_is ∙ at.stands.model)),
      ),
      at,
    )

-- ---- a run that goes on

module _ (old new : Kept) (one : IsOfOne old new) where
  narrow_still : IsNarrow (counts_of old.meta) old.program → IsNarrow (counts_of new.meta) new.program
  narrow_still narrow =
      subst (λ (meta : Metamodel). IsNarrow (counts_of meta) new.program) (sym one.meta)
      (subst (IsNarrow (counts_of old.meta)) (sym one.program) narrow)

  pub IsAt-next : (state after : State) → IsAt old state → StandsFor new after → AreHeld after.buffers → IsAt new after
  IsAt-next state after at stands held = record { narrow = narrow_still at.narrow; stands = stands; held = held }

  -- buffers alone
  pub buffers_replied : (due : Result (List Buffer) Denial) (answer : Result (Unit {0}) SessionFault) (word client text : List ℕ) (state : State)
      → IsAt old state → ((made : List Buffer) → due ≡ Ok made → AreHeld made)
      → OnOk answer (HasBuffers due state new) → IfErr answer (λ why. IsDenied why due) → OnErr answer (new ≡ old)
      → Tells answer word client text
      → (after : State) × BufferReply word client due state after text × IsAt new after
  buffers_replied due (Ok done) word client text state at held buffers none same tells =
      let after : State = record state { buffers = buffers.buffers } in (
        after,
        subst (λ d. BufferReply word client d state after text) (sym buffers.is) (refl, tells),
        IsAt-next state after at buffers.stands (held buffers.buffers buffers.is),
      )
  buffers_replied due (Err why) word client text state at held buffers d same tells =
      let denial = denied due why word client text d tells in (
        state,
        subst (λ d. BufferReply word client d state state text) (sym denial.is) (refl, denial.says),
        subst (λ k. IsAt k state) (sym same) at,
      )

  -- ---- commits

  -- which fault stands for it
  of_not_open : (why : SessionFault) (denial : Denial) (word name text : List ℕ) → denial ≡ not_open → IsFaultOf why denial → Denies why word name text → why ≡ fault.NotOpen
  of_not_open fault.AlreadyOpen denial word name text is of says = absurd (let none : ⊥ = let e : already_open ≡ not_open = sym of ∙ is in cc in none)
  of_not_open fault.TooManyOpen denial word name text is of says = absurd (let none : ⊥ = let e : too_many_open ≡ not_open = sym of ∙ is in cc in none)
  of_not_open fault.NotOpen denial word name text is of says = refl
  of_not_open fault.TooManyChanges denial word name text is of says = absurd (let none : ⊥ = let e : too_many_changes ≡ not_open = sym of ∙ is in cc in none)
  of_not_open (fault.Refused at why) denial word name text is of says = absurd (let none : ⊥ = let e : refused (record { at = at; why = why }) ≡ not_open = sym of ∙ is in cc in none)
  of_not_open fault.NoMemory denial word name text is of says = absurd says

  of_refused : (why : SessionFault) (denial : Denial) (stop : Stop) (word name text : List ℕ) → denial ≡ refused stop → IsFaultOf why denial → Denies why word name text
      → why ≡ fault.Refused stop.at stop.why
  of_refused fault.AlreadyOpen denial stop word name text is of says = absurd (let none : ⊥ = let e : already_open ≡ refused stop = sym of ∙ is in cc in none)
  of_refused fault.TooManyOpen denial stop word name text is of says = absurd (let none : ⊥ = let e : too_many_open ≡ refused stop = sym of ∙ is in cc in none)
  of_refused fault.NotOpen denial stop word name text is of says = absurd (let none : ⊥ = let e : not_open ≡ refused stop = sym of ∙ is in cc in none)
  of_refused fault.TooManyChanges denial stop word name text is of says = absurd (let none : ⊥ = let e : too_many_changes ≡ refused stop = sym of ∙ is in cc in none)
  of_refused (fault.Refused at why) denial stop word name text is of says =
      let same : record { at = at; why = why } ≡ stop = same_stop (record { at = at; why = why }) stop (sym of ∙ is) in
      ap (λ (s : Stop). fault.Refused s.at s.why) same
    where
      same_stop : (s t : Stop) → refused s ≡ refused t → s ≡ t
      same_stop s t e = cc
  of_refused fault.NoMemory denial stop word name text is of says = absurd says

  abbrev not_made : Denial → Result Model Denial
  not_made denial = Err denial

  same_denial : (x y : Denial) → not_made x ≡ not_made y → x ≡ y
  same_denial x y e = cc

  -- a transaction that isn't made is not open, or refused
  other_denial : (g : Model) (meta : Metamodel) (found : Option Buffer) (denial : Denial) → committed_from meta g found ≡ Err denial
      → (denial ≡ not_open) ⊎ ((stop : Stop) × (denial ≡ refused stop))
  other_denial g meta None denial e = inl (sym (same_denial not_open denial e))
  other_denial g meta (Some b) denial e = inr (stopped (transaction meta g b.changes) e)
    where
      stopped : (r : Result Model Stop) → refused_at r ≡ Err denial → (stop : Stop) × (denial ≡ refused stop)
      stopped (Ok h) e = absurd (let none : ⊥ = cc in none)
      stopped (Err stop) e = (stop, sym (same_denial (refused stop) denial e))

  -- a refused commit leaves the state, or ends the buffer
  pub refusal_replied : (why : SessionFault) (client text : List ℕ) (state : State)
      → IsAt old state → IsDenied why (committed old.meta client state)
      → ((at : ℕ) (refusal : Refusal) → why ≡ fault.Refused at refusal → StandsFor new (without client state))
      → ((why ≡ fault.NotOpen) ⊎ (why ≡ fault.NoMemory) → new ≡ old)
      → Denies why (codes "commit") client text
      → (after : State) × CommitReply (ground_of old) client (committed old.meta client state) state after text × IsAt new after
  refusal_replied why client text state at d ended same says =
      let denial = denied (committed old.meta client state) why (codes "commit") client text d says in
      let reply : (after : State) → after ≡ after_denial denial.denial client state → CommitReply (ground_of old) client (committed old.meta client state) state after text =
      λ after is. subst (λ due. CommitReply (ground_of old) client due state after text) (sym denial.is) (is, denial.says) in
      elim (other_denial (model_after state.steps) old.meta (buffer_of client state.buffers) denial.denial denial.is) [
        | inl is ↦ (
          state,
          reply state (ap (λ x. after_denial x client state) (sym is)),
          subst (λ k. IsAt k state) (sym (same (inl (of_not_open why denial.denial (codes "commit") client text is denial.of says)))) at,
        )
        | inr stop ↦ (
          without client state,
          reply (without client state) (ap (λ x. after_denial x client state) (sym stop.1)),
          (let of = of_refused why denial.denial stop.0 (codes "commit") client text stop.1 denial.of says in
              IsAt-next state (without client state) at (ended stop.0.at stop.0.why of) (held-without client state.buffers at.held)),
        )
      ]

  -- ---- steps

  -- what happened to each pattern
  pub each_of : (client : List ℕ) (state : State) (report : StepReport) → IsAt old state → (commits : Commits client state report old new)
      → Each (model_after state.steps) commits.step.model (tables_after state.steps) commits.step.tables report.events
  each_of client state report at commits =
      let count : length (tables_after state.steps) ≡ length commits.step.tables = (IsTabled-at old state at).count ∙ sym commits.is.tables.count in
      each_from (model_after state.steps) commits.step.model (tables_after state.steps) commits.step.tables report.events commits.reports.events.count count
      (λ n e found. (commits.reports.events.each (record { 0 = n }) e found).1)

  -- the text over the report is the reply
  pub step_replied : (client : List ℕ) (state : State) (report : StepReport) (text : List ℕ) (meta : Metamodel) (g : Model) (program : Program)
      → IsAt old state → Commits client state report old new
      → meta ≡ new.meta → g ≡ new.model → program ≡ new.program
      → text ≡ told (codes "commit") client (codes "step " ++ decimal report.step)
      ++ all_marked (record { enums = enum_names meta; objects = all_names g }) program.patterns report.events
      → (after : State) × CommitReply (ground_of old) client (committed old.meta client state) state after text × IsAt new after
  step_replied client state report text meta g program at commits meta_is g_is program_is is =
      let on = ground_of old in
      let after = after_step client commits.step state in
      let patterns = old.program.patterns in
      let before = model_after state.steps in
      let olds = tables_after state.steps in
      let news = commits.step.tables in
      let count : length patterns ≡ length news = sym commits.is.tables.count in
      let lines : ℕ → Names → List Pattern → List ℕ = λ n names ps. told (codes "commit") client (codes "step " ++ decimal n) ++ all_marked names ps report.events in (
        after,
        subst (λ due. CommitReply on client due state after text) (sym commits.due) (record {
          step = commits.step;
          is = commits.is;
          leads = refl;
          events = all_marked (names_at on after) patterns report.events;
          of = subst (λ h. AreEventTexts (names_at on after) before h patterns olds news (all_marked (names_at on after) patterns report.events)) commits.is.model
              (AreEventTexts-marked (names_at on after) before commits.step.model patterns olds news report.events (count ∙ sym commits.reports.events.count) (each_of client state report at commits));
          says = is
              ∙ ap (λ n. lines n (record { enums = enum_names meta; objects = all_names g }) program.patterns) commits.reports.number
              ∙ ap (λ m. lines (length state.steps) (record { enums = enum_names m; objects = all_names g }) program.patterns) (meta_is ∙ one.meta)
              ∙ ap (λ h. lines (length state.steps) (record { enums = enum_names old.meta; objects = all_names h }) program.patterns) (g_is ∙ commits.stands.model)
              ∙ ap (λ p. lines (length state.steps) (names_at on after) p.patterns) (program_is ∙ one.program);
        }),
        IsAt-next state after at commits.stands (held-without client state.buffers at.held),
      )
