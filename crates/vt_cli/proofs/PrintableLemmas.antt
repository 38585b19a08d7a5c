-- What a reply prints has a name.
use Rattle.std.proofs.Common.{◌≡◌, ℕ, List, Option, Some, None, Result, Ok, Err, refl, sym, ap, subst, ◌∙◌, map}
use Rattle.std.specs.Prelude.{All}
use Rattle.std.specs.List.{AllByRecursion}
use Rattle.std.proofs.lemmas.List.Elements.{All-from_recursion}
use Rattle.vt_base.specs.Base.{Counts}
use Rattle.vt_base.specs.Names.{AreNamed}
use Rattle.vt_base.specs.declared.value.Value.{Value}
use Rattle.vt_model.specs.Metamodel.{Metamodel, enum_names}
use Rattle.vt_model.specs.Model.{Model, object_names}
use Rattle.vt_model.specs.Base.{counts_of}
use Rattle.vt_model.specs.Fits.{AllFit}
use Rattle.vt_model.specs.Kept.{Keeps}
use Rattle.vt_model.specs.Sound.{IsSound}
use Rattle.vt_model.specs.Storable.{GivesStorable}
use Rattle.vt_model.specs.Transaction.{Stop, transaction}
use Rattle.vt_model.specs.Valid.{IsValid}
use Rattle.vt_model.specs.declared.change.Change.{Change}
use Rattle.vt_graph.specs.Asked.{all_names}
use Rattle.vt_query.specs.Narrow.{IsNarrow}
use Rattle.vt_query.specs.Tables.{StandFor}
use Rattle.vt_query.specs.declared.program.Program.{Program}
use Rattle.vt_history.specs.History.{model_after, tables_after}
use Rattle.vt_history.specs.declared.report.StepReport.{StepReport}
use Rattle.vt_session.specs.declared.buffers.Buffer.{Buffer}
use Rattle.vt_session.specs.Buffers.{Denial, buffer_of}
use Rattle.vt_session.specs.Run.{State, committed_from, refused_at}
use Rattle.vt_session.specs.Session.{Kept, IsOfOne, Commits}
use Rattle.vt_session.specs.Session.{table_in}
use Rattle.vt_cli.specs.Inside.Printable.{AllNamed, AllTablesNamed, AllEventsNamed}
use Rattle.vt_cli.specs.Inside.Begun.{IsAt}
use Rattle.vt_cli.proofs.NamedLemmas.{tables_named}
use Rattle.vt_cli.proofs.StepNameLemmas.{kept_tables_named, events_named, asked_named}
use Rattle.vt_cli.proofs.HeldLemmas.{held-found}
use Rattle.vt_cli.proofs.ReachLemmas.{IsTabled-at}
use Rattle.vt_cli.proofs.ReplyLemmas.{each_of}

pub IsValid-moved : (meta m : Metamodel) (g h : Model) → meta ≡ m → g ≡ h → IsValid meta g → IsValid m h
IsValid-moved meta m g h meta_is g_is valid = subst (IsValid m) g_is (subst (λ x. IsValid x g) meta_is valid)

-- the buffer that a commit made, and its transaction
pub record IsMade (meta : Metamodel) (g after : Model) (found : Option Buffer) : Type 0 where
  pub buffer : Buffer
  pub is : found ≡ Some buffer
  pub makes : transaction meta g buffer.changes ≡ Ok after

made_from : (meta : Metamodel) (g after : Model) (found : Option Buffer) → committed_from meta g found ≡ Ok after → IsMade meta g after found
made_from meta g after None e = absurd (let none : ⊥ = cc in none)
made_from meta g after (Some b) e = record { buffer = b; is = refl; makes = made (transaction meta g b.changes) e }
  where
    made : (r : Result Model Stop) → refused_at r ≡ Ok after → r ≡ Ok after
    made (Ok h) e = ap again e
      where
        again : Result Model Denial → Result Model Stop
        again (Ok x) = Ok x
        again (Err denial) = Ok h
    made (Err stop) e = absurd (let none : ⊥ = cc in none)

module _ (named : (meta : Metamodel) (g : Model) (counts : Counts) (program : Program) (tables : List (List (List Value)))
    → IsSound meta → AllFit meta g → IsNarrow counts program → StandFor meta g program tables
    → AllByRecursion (AllByRecursion (AreNamed (enum_names meta) (object_names g))) tables) where
  -- tables of a valid model
  named_now : (meta : Metamodel) (g : Model) (program : Program) (tables : List (List (List Value)))
      → IsSound meta → IsValid meta g → IsNarrow (counts_of meta) program → StandFor meta g program tables
      → AllTablesNamed (enum_names meta) (object_names g) tables
  named_now meta g program tables sound valid narrow stand =
      named meta g (counts_of meta) program tables sound (record { values = valid.values_fit; links = valid.links_fit }) narrow stand

  -- and the deleted objects' names besides
  named_among_all : (meta : Metamodel) (g : Model) (program : Program) (tables : List (List (List Value)))
      → IsSound meta → IsValid meta g → IsNarrow (counts_of meta) program → StandFor meta g program tables
      → AllTablesNamed (enum_names meta) (all_names g) tables
  named_among_all meta g program tables sound valid narrow stand =
      tables_named (enum_names meta) (object_names g) (map (λ o. record { object = o.number; name = o.name }) g.gone) tables
      (named_now meta g program tables sound valid narrow stand)

  -- ---- matches

  pub matches_named : (kept : Kept) (state : State) (name : List ℕ) (rows : List (List Value)) → IsSound kept.meta → IsValid kept.meta kept.model
      → IsAt kept state → table_in kept.program kept.tables name ≡ Some rows → AllNamed (enum_names kept.meta) (all_names kept.model) rows
  matches_named kept state name rows sound valid at asked =
      let stand : StandFor kept.meta kept.model kept.program kept.tables =
      subst (λ g. StandFor kept.meta g kept.program kept.tables) (sym at.stands.model)
      (subst (StandFor kept.meta (model_after state.steps) kept.program) (sym at.stands.tables) (IsTabled-at kept state at)) in
      asked_named (enum_names kept.meta) (all_names kept.model) kept.program kept.tables name rows
      (named_among_all kept.meta kept.model kept.program kept.tables sound valid at.narrow stand) asked

  -- the same of a store that keeps the model
  pub matches_in_store : (meta : Metamodel) (g : Model) (kept : Kept) (state : State) (name : List ℕ) (rows : List (List Value))
      → meta ≡ kept.meta → g ≡ kept.model → IsSound meta → IsValid meta g
      → IsAt kept state → table_in kept.program kept.tables name ≡ Some rows → AllNamed (enum_names meta) (all_names g) rows
  matches_in_store meta g kept state name rows meta_is g_is sound valid at asked =
      subst (λ m. AllNamed (enum_names m) (all_names g) rows) (sym meta_is) (subst (λ h. AllNamed (enum_names kept.meta) (all_names h) rows) (sym g_is)
      (matches_named kept state name rows (subst IsSound meta_is sound) (subst (IsValid kept.meta) g_is (subst (λ m. IsValid m g) meta_is valid)) at asked))

  -- ---- events

  module _ (keeps : (meta : Metamodel) (g after : Model) (changes : List Change)
      → IsSound meta → IsValid meta g → All GivesStorable changes → transaction meta g changes ≡ Ok after → Keeps g after)
      (old new : Kept) (one : IsOfOne old new) (client : List ℕ) (report : StepReport) (state : State) (at : IsAt old state)
      (commits : Commits client state report old new)
      (sound : IsSound old.meta) (valid : IsValid old.meta old.model) (valid_too : IsValid new.meta new.model) where
    valid_before : IsValid old.meta (model_after state.steps)
    valid_before = subst (IsValid old.meta) at.stands.model valid

    -- the model after the step
    same_model : new.model ≡ commits.model
    same_model = commits.stands.model ∙ commits.is.model

    valid_after : IsValid old.meta commits.model
    valid_after = subst (λ meta. IsValid meta commits.model) one.meta (subst (IsValid new.meta) same_model valid_too)

    keeps_names : Keeps (model_after state.steps) commits.model
    keeps_names =
        let made = made_from old.meta (model_after state.steps) commits.model (buffer_of client state.buffers) commits.due in
        keeps old.meta (model_after state.steps) commits.model made.buffer.changes sound valid_before
        (All-from_recursion GivesStorable made.buffer.changes (held-found client state.buffers made.buffer at.held made.is)) made.makes

    olds_named : AllTablesNamed (enum_names old.meta) (all_names commits.model) (tables_after state.steps)
    olds_named =
        kept_tables_named (enum_names old.meta) (model_after state.steps) commits.model keeps_names (tables_after state.steps)
        (named_now old.meta (model_after state.steps) old.program (tables_after state.steps) sound valid_before at.narrow (IsTabled-at old state at))

    news_named : AllTablesNamed (enum_names old.meta) (all_names commits.model) commits.step.tables
    news_named = named_among_all old.meta commits.model old.program commits.step.tables sound valid_after at.narrow commits.is.tables

    pub step_named : AllEventsNamed (enum_names new.meta) (all_names new.model) report.events
    step_named =
        let all = events_named (enum_names old.meta) (all_names commits.model) (model_after state.steps) commits.step.model (tables_after state.steps) commits.step.tables report.events
        olds_named news_named (each_of old new one client state report at commits) in
        subst (λ g. AllEventsNamed (enum_names new.meta) (all_names g) report.events) (sym same_model)
        (subst (λ meta. AllEventsNamed (enum_names meta) (all_names commits.model) report.events) (sym one.meta) all)

    -- the same of a store that keeps the model
    pub step_in_store : (meta : Metamodel) (g : Model) → meta ≡ new.meta → g ≡ new.model → AllEventsNamed (enum_names meta) (all_names g) report.events
    step_in_store meta g meta_is g_is =
        subst (λ m. AllEventsNamed (enum_names m) (all_names g) report.events) (sym meta_is)
        (subst (λ h. AllEventsNamed (enum_names new.meta) (all_names h) report.events) (sym g_is) step_named)
