-- How an ending and what was written stand to what is due.
use Rattle.std.specs.Prelude.{◌≡◌, ◌⊎◌, ◌≤◌, ℕ, List, ◌∷◌, ◌++◌, length, IsSomeAnd, Option, Some, None, IfSome}
use Rattle.std.specs.List.{AllByRecursion}
use Rattle.std.specs.Io.KnownBytes.{Appends}
use Rattle.vt_outside.specs.Shelf.{NamedFiles, file_at}
use Rattle.vt_outside.specs.Faults.{Rose}
use Rattle.vt_outside.specs.Sink.{AppendsPrefix}
use Rattle.vt_cli.specs.Command.{command_of, files_of}
use Rattle.vt_cli.specs.Lines.{unreadable_line}
use Rattle.vt_cli.specs.Texts.{file_limit}
use Rattle.vt_cli.specs.Result.{IsDue}
use Rattle.vt_cli.specs.declared.ending.Role.{Role}
use Rattle.vt_cli.specs.declared.ending.Ending.{Ending}
use Rattle.vt_cli.specs.declared.ending.Outcome.{Outcome}
use Rattle.vt_cli.specs.declared.ending.Ending.TheVariants.{Done, ReadFault, NoMemory, WriteFault, Usage}

-- ---- endings

-- the words and the files alone decide the ending: no device and no want of memory
abbrev pub IsDecided : Ending → Type 0
IsDecided (ReadFault file) = ⊥
IsDecided NoMemory = ⊥
IsDecided WriteFault = ⊥
IsDecided ending = Unit {0}

-- decided so, but not done: no command, or a file that is refused, missing or too large
abbrev pub IsRefusal : Ending → Type 0
IsRefusal Done = ⊥
IsRefusal ending = IsDecided ending

-- decided so, unless memory ran out
abbrev pub IsCompleted : Ending → Type 0
IsCompleted NoMemory = Unit {0}
IsCompleted ending = IsDecided ending

-- no command, if the line that says so could be written
abbrev pub EndsUsage : Ending → Type 0
EndsUsage Usage = Unit {0}
EndsUsage NoMemory = Unit {0}
EndsUsage WriteFault = Unit {0}
EndsUsage ending = ⊥

-- ---- what was written

-- the outcome is due where the files are told, it has this ending, its whole text was written, and
-- no fetch failed
pub record IsAnswered (words : List (List ℕ)) (told : Option NamedFiles) (before now : ℕ) (ending : Ending) (old new : Option (List ℕ)) : Type 0 where
  pub outcome : Outcome
  pub due : IfSome told (λ known. IsDue words known outcome)
  pub ends : ending ≡ outcome.ending
  pub written : Appends old new outcome.text
  pub quiet : now ≡ before

-- no command is told as such, and nothing else is, whatever the files are
pub record TellsUsage (words : List (List ℕ)) (ending : Ending) : Type 0 where
  pub only : ending ≡ Usage → command_of words ≡ None
  pub always : command_of words ≡ None → EndsUsage ending

-- each of these files is there and within the limit
abbrev pub AreThere : NamedFiles → List (Role × List ℕ) → Type 0
AreThere known files = AllByRecursion (λ file. IsSomeAnd (file_at known file.1) (λ bytes. length bytes ≤ file_limit)) files

-- the fetch of one of these files failed: the shelf counted that and keeps the file's name, and the
-- files before it are there
pub record FailsToRead (files : List (Role × List ℕ)) (told : Option NamedFiles) (role : Role) (before now : ℕ) (failed : Option (List ℕ)) : Type 0 where
  pub earlier : List (Role × List ℕ)
  pub name : List ℕ
  pub later : List (Role × List ℕ)
  pub parts : files ≡ earlier ++ (role, name) ∷ later
  pub there : IfSome told (λ known. AreThere known earlier)
  pub counted : Rose before now
  pub named : failed ≡ Some name

-- such a fetch failed, and the line that tells it was written
pub record IsUnread (words : List (List ℕ)) (told : Option NamedFiles) (role : Role) (before now : ℕ) (failed : Option (List ℕ)) (old new : Option (List ℕ)) : Type 0 where
  pub fails : FailsToRead (files_of (command_of words)) told role before now failed
  pub line : Appends old new (unreadable_line role)

-- nothing was written, or a prefix of a text that is due, or of the line that tells the failed fetch
abbrev pub WritesFront : List (List ℕ) → Option NamedFiles → ℕ → ℕ → Option (List ℕ) → Option (List ℕ) → Option (List ℕ) → Type 0
WritesFront words told before now failed old new = (new ≡ old)
    ⊎ ((outcome : Outcome) × IfSome told (λ known. IsDue words known outcome) × AppendsPrefix old new outcome.text)
    ⊎ ((role : Role) × FailsToRead (files_of (command_of words)) told role before now failed × AppendsPrefix old new (unreadable_line role))

-- the sink counted a failure, and took no more than such a prefix
pub record IsUnwritten (words : List (List ℕ)) (told : Option NamedFiles) (before now : ℕ) (failed : Option (List ℕ)) (puts_before puts_now : ℕ) (old new : Option (List ℕ)) : Type 0 where
  pub counted : Rose puts_before puts_now
  pub front : WritesFront words told before now failed old new
