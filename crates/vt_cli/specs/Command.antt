-- What the words ask for, and how a run ends.
use Rattle.std.specs.Prelude.{ℕ, List, [], ◌∷◌, length, zip, codes, nat_eq, if◌then◌else◌, Option, Some, None, option_and_then}
use Rattle.std.specs.Cmp.Lexicographic.{pointwise}
use Rattle.vt_cli.specs.declared.command.Task.{Task}
use Rattle.vt_cli.specs.declared.command.Task.TheVariants.{Show, Matches, Run}
use Rattle.vt_cli.specs.declared.ending.Role.{Role}
use Rattle.vt_cli.specs.declared.ending.Role.TheVariants.{Metamodel, Model, Queries, Rules, Script}
use Rattle.vt_cli.specs.declared.ending.Ending.{Ending}
use Rattle.vt_cli.specs.declared.ending.Ending.TheVariants.{Done, Usage, BadInput, Missing, ReadFault, NoMemory, WriteFault, TooLarge}

-- ---- commands: each has a line in these three

-- what the first word asks for
abbrev pub task_of : List ℕ → Option Task
task_of word =
    if pointwise nat_eq word (codes "show") then Some Show
    else if pointwise nat_eq word (codes "matches") then Some Matches
    else if pointwise nat_eq word (codes "run") then Some Run
    else None

-- what the other words name: the files, in their order; no two are the same to a command
abbrev pub roles_of : Task → List Role
roles_of Show = Metamodel ∷ Model ∷ []
roles_of Matches = Metamodel ∷ Model ∷ Queries ∷ []
roles_of Run = Metamodel ∷ Model ∷ Queries ∷ Rules ∷ Script ∷ []

-- whether the model is asked for no rows
abbrev pub IsWithoutRows : Task → Type 0
IsWithoutRows Show = Unit {0}
IsWithoutRows Matches = ⊥
IsWithoutRows Run = ⊥

-- ---- words

-- a command: what it does, and its files, each as what it is and under its name
pub record Command : Type 0 where
  pub task : Task
  pub files : List (Role × List ℕ)

-- there are as many names as files
abbrev pub with_names : List (List ℕ) → Task → Option Command
with_names names task = if nat_eq (length names) (length (roles_of task))
    then Some (record { task = task; files = zip (roles_of task) names })
    else None

-- words that are no command are none
abbrev pub command_of : List (List ℕ) → Option Command
command_of [] = None
command_of (word ∷ names) = option_and_then (with_names names) (task_of word)

-- the files of a command; no command has any
abbrev pub files_of : Option Command → List (Role × List ℕ)
files_of None = []
files_of (Some command) = command.files

-- the words ask the model for no rows
abbrev pub AsksNothing : Option Command → Type 0
AsksNothing None = Unit {0}
AsksNothing (Some command) = IsWithoutRows command.task

-- ---- endings

-- the exit status of an ending
abbrev pub status_of : Ending → ℕ
status_of Done = 0
status_of Usage = 2
status_of (BadInput file code place) = 3
status_of (Missing file) = 4
status_of (ReadFault file) = 4
status_of NoMemory = 5
status_of WriteFault = 6
status_of (TooLarge file len) = 7
