-- What is due to a list of words over told files: an ending and a text.
use Rattle.std.specs.Prelude.{◌≡◌, ◌⊎◌, ℕ, List, ◌++◌, codes, Option, Some, None, Result, Ok, Err}
use Rattle.vt_base.specs.declared.value.Value.{Value}
use Rattle.vt_outside.specs.Shelf.{NamedFiles}
use Rattle.vt_model.specs.Metamodel.{Metamodel, enum_names}
use Rattle.vt_model.specs.Model.{Model}
use Rattle.vt_meta.specs.Reading.{meta_of}
use Rattle.vt_graph.specs.Asked.{all_names}
use Rattle.vt_query.specs.Tables.{StandFor}
use Rattle.vt_query.specs.declared.program.Program.{Program}
use Rattle.vt_vql.specs.Queries.{Accepts, IsFaultOf}
use Rattle.vt_vql.specs.declared.fault.QueryFault.{QueryFault}
use Rattle.vt_model_json.specs.Loading.{loaded}
use Rattle.vt_model_json.specs.Dump.{dump}
use Rattle.vt_script.specs.Script.{script_of}
use Rattle.vt_script.specs.declared.line.Line.{Line}
use Rattle.vt_cli.specs.Command.{Command, command_of}
use Rattle.vt_cli.specs.Lines.{usage_line}
use Rattle.vt_cli.specs.Texts.{◌>>=◌, texts_of, text_of}
use Rattle.vt_cli.specs.Refusals.{refused_meta, refused_model, refused_queries, refused_rules, refused_script}
use Rattle.vt_cli.specs.Lists.{match_lists}
use Rattle.vt_cli.specs.Running.{IsRun}
use Rattle.vt_cli.specs.declared.command.Task.{Task}
use Rattle.vt_cli.specs.declared.command.Task.TheVariants.{Show, Matches, Run}
use Rattle.vt_cli.specs.declared.ending.Role.{Role}
use Rattle.vt_cli.specs.declared.ending.Role.TheVariants as role
use Rattle.vt_cli.specs.declared.ending.Ending.TheVariants.{Done, Usage}
use Rattle.vt_cli.specs.declared.ending.Outcome.{Outcome}

-- ---- documents

-- a model, with its metamodel
pub record Loaded : Type 0 where
  pub meta : Metamodel
  pub model : Model

abbrev pub metamodel_of : List ℕ → Result Metamodel Outcome
metamodel_of bytes = refused_meta (meta_of bytes)

abbrev pub model_of : Metamodel → List ℕ → Result Model Outcome
model_of meta bytes = refused_model (loaded meta bytes)

-- the metamodel is judged before the model
abbrev pub loaded_from : List (Role × List ℕ) → Result Loaded Outcome
loaded_from texts = do
  meta ← metamodel_of (text_of role.Metamodel texts)
  g ← model_of meta (text_of role.Model texts)
  Ok (record { meta = meta; model = g })

-- ---- what is due

-- the whole text
abbrev pub done : List ℕ → Outcome
done text = record { ending = Done; text = text }

-- the words are no command
abbrev pub usage : Outcome
usage = record { ending = Usage; text = usage_line }

-- a model's dump and a line's end
abbrev pub shown : Loaded → Outcome
shown l = done (dump l.meta l.model ++ codes "\n")

-- the match lists of a program, whose tables are these
pub record IsListed (l : Loaded) (program : Program) (outcome : Outcome) : Type 0 where
  pub tables : List (List (List Value))
  pub stand : StandFor l.meta l.model program tables
  pub is : outcome ≡ done (match_lists (enum_names l.meta) (all_names l.model) program.patterns tables)

-- the load and the replies to a script
pub record IsTold (l : Loaded) (program : Program) (lines : List Line) (outcome : Outcome) : Type 0 where
  pub text : List ℕ
  pub run : IsRun (record { meta = l.meta; program = program }) l.model lines text
  pub is : outcome ≡ done text

-- what comes first, or what is due to the rest
abbrev pub IsDueTo : {A : Type 0} → Result A Outcome → (A → Outcome → Type 0) → Outcome → Type 0
IsDueTo (Err first) rest outcome = outcome ≡ first
IsDueTo (Ok x) rest outcome = rest x outcome

-- the rules are judged before the script
abbrev pub IsRunOf : Loaded → List (Role × List ℕ) → Program → Outcome → Type 0
IsRunOf l texts program outcome =
    IsDueTo (refused_rules (text_of role.Rules texts))
    (λ rules o. IsDueTo (refused_script (script_of (text_of role.Script texts))) (λ lines due. IsTold l program lines due) o) outcome

-- what is due to the program that the bytes of a query file spell
pub record IsOfProgram (l : Loaded) (bytes : List ℕ) (due_to : Program → Outcome → Type 0) (outcome : Outcome) : Type 0 where
  pub program : Program
  pub accepts : Accepts l.meta bytes program
  pub due : due_to program outcome

-- the line that tells the file's first fault
pub record IsRefused (l : Loaded) (bytes : List ℕ) (outcome : Outcome) : Type 0 where
  pub fault : QueryFault
  pub stands : IsFaultOf l.meta bytes fault
  pub is : refused_queries fault ≡ Some outcome

-- the queries are judged before what is about them
abbrev pub IsDueToQueries : Loaded → List ℕ → (Program → Outcome → Type 0) → Outcome → Type 0
IsDueToQueries l bytes due_to outcome = IsOfProgram l bytes due_to outcome ⊎ IsRefused l bytes outcome

-- what a command makes of a model and its other texts: each command has a line
abbrev pub IsDueToModel : Task → Loaded → List (Role × List ℕ) → Outcome → Type 0
IsDueToModel Show l texts outcome = outcome ≡ shown l
IsDueToModel Matches l texts outcome = IsDueToQueries l (text_of role.Queries texts) (IsListed l) outcome
IsDueToModel Run l texts outcome = IsDueToQueries l (text_of role.Queries texts) (IsRunOf l texts) outcome

-- the model is judged before the texts that are about it
abbrev pub IsDueToTexts : Task → List (Role × List ℕ) → Outcome → Type 0
IsDueToTexts task texts outcome = IsDueTo (loaded_from texts) (λ l o. IsDueToModel task l texts o) outcome

-- all files are there before any is judged
abbrev pub IsDueToCommand : Option Command → NamedFiles → Outcome → Type 0
IsDueToCommand None known outcome = outcome ≡ usage
IsDueToCommand (Some command) known outcome =
    IsDueTo (texts_of known command.files) (λ texts o. IsDueToTexts command.task texts o) outcome

-- the outcome is due to the words over these files
abbrev pub IsDue : List (List ℕ) → NamedFiles → Outcome → Type 0
IsDue words known outcome = IsDueToCommand (command_of words) known outcome
