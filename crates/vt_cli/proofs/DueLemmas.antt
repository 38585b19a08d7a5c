-- At most one outcome is due.
use Rattle.std.proofs.Common.{ℕ, ◌≡◌, ◌≢◌, List, Option, Some, None, Result, Ok, Err, sym, ◌∙◌, ap, subst, inl, inr}
use Rattle.vt_base.specs.Base.{Counts}
use Rattle.vt_base.specs.declared.value.Value.{Value}
use Rattle.vt_outside.specs.Shelf.{NamedFiles}
use Rattle.vt_model.specs.Base.{counts_of}
use Rattle.vt_model.specs.Metamodel.{Metamodel, enum_names}
use Rattle.vt_model.specs.Model.{Model}
use Rattle.vt_graph.specs.Asked.{all_names}
use Rattle.vt_query.specs.Calls.{IsAcyclic}
use Rattle.vt_query.specs.Narrow.{IsNarrow}
use Rattle.vt_query.specs.Tables.{StandFor}
use Rattle.vt_query.specs.declared.program.Program.{Program}
use Rattle.vt_vql.specs.Queries.{Accepts, IsFaultOf}
use Rattle.vt_vql.specs.declared.fault.QueryFault.{QueryFault}
use Rattle.vt_vql.specs.declared.fault.QueryFault.TheVariants.{NoMemory}
use Rattle.vt_cli.specs.Command.{Command, command_of}
use Rattle.vt_cli.specs.Lists.{match_lists}
use Rattle.vt_script.specs.Script.{script_of}
use Rattle.vt_script.specs.declared.line.Line.{Line}
use Rattle.vt_cli.specs.Refusals.{refused_queries, refused_rules, refused_script}
use Rattle.vt_cli.specs.Texts.{texts_of, text_of}
use Rattle.vt_cli.specs.Result.{loaded_from, shown, done, IsListed, IsTold, IsRunOf, IsOfProgram, IsRefused, IsDueTo, IsDueToQueries, IsDueToModel, IsDueToTexts, IsDueToCommand, IsDue, Loaded}
use Rattle.vt_cli.specs.declared.command.Task.{Task}
use Rattle.vt_cli.specs.declared.command.Task.TheVariants.{Show, Matches, Run}
use Rattle.vt_cli.specs.declared.ending.Role.{Role}
use Rattle.vt_cli.specs.declared.ending.Role.TheVariants as role
use Rattle.vt_cli.specs.declared.ending.Outcome.{Outcome}
use Rattle.vt_cli.proofs.OneTextLemmas.{one_text}

-- ---- what the crates below promise

pub record Below : Type 0 where
  pub one_program : (meta : Metamodel) (bytes : List ℕ) (program other : Program)
      → Accepts meta bytes program → Accepts meta bytes other → program ≡ other
  pub no_fault : (meta : Metamodel) (bytes : List ℕ) (program : Program) (fault : QueryFault)
      → Accepts meta bytes program → fault ≢ NoMemory → IsFaultOf meta bytes fault → ⊥
  pub one_fault : (meta : Metamodel) (bytes : List ℕ) (fault other : QueryFault)
      → fault ≢ NoMemory → other ≢ NoMemory → IsFaultOf meta bytes fault → IsFaultOf meta bytes other → fault ≡ other
  pub narrow : (meta : Metamodel) (bytes : List ℕ) (program : Program) → Accepts meta bytes program → IsNarrow (counts_of meta) program
  pub acyclic : (counts : Counts) (program : Program) → IsNarrow counts program → IsAcyclic program
  pub one_list : (meta : Metamodel) (g : Model) (program : Program) (tables others : List (List (List Value)))
      → IsAcyclic program → StandFor meta g program tables → StandFor meta g program others → tables ≡ others

-- ---- what comes first, or what is due to the rest

abbrev IsAtMostOne : (Outcome → Type 0) → Type 0
IsAtMostOne due = (outcome other : Outcome) → due outcome → due other → outcome ≡ other

one_due : {A : Type 0} (first : Result A Outcome) (rest : A → Outcome → Type 0)
    → ((x : A) → IsAtMostOne (rest x)) → IsAtMostOne (IsDueTo first rest)
one_due (Err given) rest one outcome other e f = e ∙ sym f
one_due (Ok x) rest one outcome other e f = one x outcome other e f

-- ---- refusals

-- a fault that has an outcome is no want of memory
has_outcome : (fault : QueryFault) (outcome : Outcome) → refused_queries fault ≡ Some outcome → fault ≢ NoMemory
has_outcome fault outcome e h = let none : None ≡ Some outcome = sym (ap refused_queries h) ∙ e in cc

some_same : (x y : Outcome) → Some x ≡ Some y → x ≡ y
some_same x y e = cc

module _ (below : Below) (l : Loaded) (bytes : List ℕ) where
  one_refusal : IsAtMostOne (IsRefused l bytes)
  one_refusal outcome other a b =
      let same = below.one_fault l.meta bytes a.fault b.fault (has_outcome a.fault outcome a.is) (has_outcome b.fault other b.is) a.stands b.stands in
      some_same outcome other (sym a.is ∙ ap refused_queries same ∙ b.is)

  -- ---- what is due to a program

  module _ (due_to : Program → Outcome → Type 0) (one : (program : Program) → IsAcyclic program → IsAtMostOne (due_to program)) where
    one_of_program : IsAtMostOne (IsOfProgram l bytes due_to)
    one_of_program outcome other a b =
        let same = below.one_program l.meta bytes b.program a.program b.accepts a.accepts in
        let acyclic = below.acyclic (counts_of l.meta) a.program (below.narrow l.meta bytes a.program a.accepts) in
        one a.program acyclic outcome other a.due (subst (λ program. due_to program other) same b.due)

    -- a file that spells a program is not refused
    not_both : (outcome other : Outcome) → IsOfProgram l bytes due_to outcome → IsRefused l bytes other → ⊥
    not_both outcome other a b = below.no_fault l.meta bytes a.program b.fault a.accepts (has_outcome b.fault other b.is) b.stands

    one_answer : IsAtMostOne (IsDueToQueries l bytes due_to)
    one_answer outcome other (inl a) (inl b) = one_of_program outcome other a b
    one_answer outcome other (inl a) (inr b) = absurd (not_both outcome other a b)
    one_answer outcome other (inr a) (inl b) = absurd (not_both other outcome b a)
    one_answer outcome other (inr a) (inr b) = one_refusal outcome other a b

-- ---- match lists

one_listing : Below → (l : Loaded) (program : Program) → IsAcyclic program → IsAtMostOne (IsListed l program)
one_listing below l program acyclic outcome other a b =
    let same = below.one_list l.meta l.model program a.tables b.tables acyclic a.stand b.stand in
    a.is ∙ ap (λ tables. done (match_lists (enum_names l.meta) (all_names l.model) program.patterns tables)) same ∙ sym b.is

-- ---- runs

one_run : Below → (l : Loaded) (program : Program) (lines : List Line) → IsAcyclic program → IsAtMostOne (IsTold l program lines)
one_run below l program lines acyclic outcome other a b =
    a.is ∙ ap done (one_text (record { meta = l.meta; program = program }) (λ g tables others s t. below.one_list l.meta g program tables others acyclic s t) l.model lines a.text b.text a.run b.run) ∙ sym b.is

one_due_to_program : Below → (l : Loaded) (texts : List (Role × List ℕ)) (program : Program) → IsAcyclic program → IsAtMostOne (IsRunOf l texts program)
one_due_to_program below l texts program acyclic =
    let script = refused_script (script_of (text_of role.Script texts)) in
    let told : List Line → Outcome → Type 0 = λ lines due. IsTold l program lines due in
    one_due (refused_rules (text_of role.Rules texts)) (λ rules o. IsDueTo script told o)
    (λ rules. one_due script told (λ lines. one_run below l program lines acyclic))

-- ---- commands

one_shown : (l : Loaded) → IsAtMostOne (λ o. o ≡ shown l)
one_shown l outcome other e f = e ∙ sym f

one_due_to_model : Below → (task : Task) (texts : List (Role × List ℕ)) (l : Loaded) → IsAtMostOne (IsDueToModel task l texts)
one_due_to_model below Show texts l = one_shown l
one_due_to_model below Matches texts l = one_answer below l (text_of role.Queries texts) (IsListed l) (one_listing below l)
one_due_to_model below Run texts l = one_answer below l (text_of role.Queries texts) (IsRunOf l texts) (one_due_to_program below l texts)

one_due_to_texts : Below → (task : Task) (texts : List (Role × List ℕ)) → IsAtMostOne (IsDueToTexts task texts)
one_due_to_texts below task texts = one_due (loaded_from texts) (λ l o. IsDueToModel task l texts o) (one_due_to_model below task texts)

one_due_to_command : Below → (command : Option Command) (known : NamedFiles) → IsAtMostOne (IsDueToCommand command known)
one_due_to_command below None known outcome other e f = e ∙ sym f
one_due_to_command below (Some command) known outcome other e f =
    one_due (texts_of known command.files) (λ texts o. IsDueToTexts command.task texts o) (one_due_to_texts below command.task) outcome other e f

pub one_outcome : Below → (words : List (List ℕ)) (known : NamedFiles) (outcome other : Outcome)
    → IsDue words known outcome → IsDue words known other → outcome ≡ other
one_outcome below words known outcome other e f = one_due_to_command below (command_of words) known outcome other e f
