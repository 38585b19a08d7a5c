-- An outcome before its text is written, and how it is written.
use Rattle.std.specs.Prelude.{◌≡◌, ◌⊎◌, ◌≤◌, ◌++◌, ℕ, List, length, Option, Some, None, IfSome, Ok, Err}
use Rattle.std.specs.List.{AllByRecursion}
use Rattle.std.specs.Io.KnownBytes.{Appends}
use Rattle.vt_outside.specs.Faults.{Rose}
use Rattle.vt_outside.specs.Shelf.{NamedFiles}
use Rattle.vt_outside.specs.Sink.{AppendsPrefix}
use Rattle.vt_cli.specs.Command.{Command, files_of}
use Rattle.vt_cli.specs.Lines.{unreadable_line}
use Rattle.vt_cli.specs.Texts.{file_limit, texts_of}
use Rattle.vt_cli.specs.Result.{IsDueToCommand}
use Rattle.vt_cli.specs.Answer.{FailsToRead, AreThere}
use Rattle.vt_cli.specs.declared.ending.Role.{Role}
use Rattle.vt_cli.specs.declared.ending.Ending.{Ending}
use Rattle.vt_cli.specs.declared.ending.Ending.TheVariants.{Done, Usage, BadInput, Missing, TooLarge, ReadFault, NoMemory, WriteFault}
use Rattle.vt_cli.specs.declared.ending.Outcome.{Outcome}

-- ---- fetching

-- an ending that the files of a command decide
abbrev pub IsOfFiles : Ending → Type 0
IsOfFiles Done = Unit {0}
IsOfFiles (BadInput file code place) = Unit {0}
IsOfFiles (Missing file) = Unit {0}
IsOfFiles (TooLarge file len) = Unit {0}
IsOfFiles ending = ⊥

-- the outcome of a failed fetch
abbrev pub unread : Role → Outcome
unread role = record { ending = ReadFault role; text = unreadable_line role }

-- no text is longer than a file may be
abbrev pub AreSmall : List (Role × List ℕ) → Type 0
AreSmall texts = AllByRecursion (λ text. length text.1 ≤ file_limit) texts

-- these files were fetched
pub record AreFetched (files : List (Role × List ℕ)) (told : Option NamedFiles) (before now : ℕ) (texts : List (Role × List ℕ)) : Type 0 where
  pub given : IfSome told (λ known. texts_of known files ≡ Ok texts)
  pub there : IfSome told (λ known. AreThere known files)
  pub quiet : now ≡ before
  pub small : AreSmall texts

-- so far a part of the files was fetched
pub record AreFetchedTo (files rest : List (Role × List ℕ)) (told : Option NamedFiles) (before now : ℕ) (texts : List (Role × List ℕ)) : Type 0 where
  pub part : List (Role × List ℕ)
  pub parts : files ≡ part ++ rest
  pub fetched : AreFetched part told before now texts

-- one of them isn't there, or is too large
pub record AreStopped (files : List (Role × List ℕ)) (told : Option NamedFiles) (before now : ℕ) (outcome : Outcome) : Type 0 where
  pub given : IfSome told (λ known. texts_of known files ≡ Err outcome)
  pub suits : IsOfFiles outcome.ending
  pub quiet : now ≡ before

-- one of them could not be read
pub record AreUnread (files : List (Role × List ℕ)) (told : Option NamedFiles) (before now : ℕ) (failed : Option (List ℕ)) (outcome : Outcome) : Type 0 where
  pub role : Role
  pub tells : outcome ≡ unread role
  pub fails : FailsToRead files told role before now failed

-- the fetch of a file failed
pub record FailsFile (role : Role) (name : List ℕ) (before now : ℕ) (failed : Option (List ℕ)) (outcome : Outcome) : Type 0 where
  pub tells : outcome ≡ unread role
  pub counted : Rose before now
  pub named : failed ≡ Some name

-- ---- before the text is written

-- no command ends as such, and a command as its files decide
abbrev pub Suits : Option Command → Ending → Type 0
Suits None Usage = Unit {0}
Suits None ending = ⊥
Suits (Some command) ending = IsOfFiles ending

-- no fetch failed, and the outcome is due
pub record IsPlanned (command : Option Command) (told : Option NamedFiles) (before now : ℕ) (outcome : Outcome) : Type 0 where
  pub due : IfSome told (λ known. IsDueToCommand command known outcome)
  pub suits : Suits command outcome.ending
  pub quiet : now ≡ before

-- or it tells a failed fetch
abbrev pub Prepares : Option Command → Option NamedFiles → ℕ → ℕ → Option (List ℕ) → Outcome → Type 0
Prepares command told before now failed outcome =
    IsPlanned command told before now outcome ⊎ AreUnread (files_of command) told before now failed outcome

-- ---- writing

-- the sink took less than the text: it counted a failure, or memory ran out
abbrev pub IsCutShort : Ending → ℕ → ℕ → Type 0
IsCutShort NoMemory before now = Unit {0}
IsCutShort WriteFault before now = Rose before now
IsCutShort ending before now = ⊥

-- the whole text was written, or a prefix
abbrev pub Delivers : Outcome → Ending → ℕ → ℕ → Option (List ℕ) → Option (List ℕ) → Type 0
Delivers outcome ending before now old new =
    ((ending ≡ outcome.ending) × Appends old new outcome.text)
    ⊎ (IsCutShort ending before now × AppendsPrefix old new outcome.text)
