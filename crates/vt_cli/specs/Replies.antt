-- The texts of a run: what is told of each command of a script.
use Rattle.std.specs.Prelude.{◌≡◌, ◌⊎◌, ℕ, List, [], ◌∷◌, ◌++◌, ◌&&◌, Bool, true, false, not, flat_map, length, codes, decimal, if◌then◌else◌}
use Rattle.vt_base.specs.Names.{EnumNames, ObjectName}
use Rattle.vt_base.specs.Rows.{has_row}
use Rattle.vt_base.specs.Written.{tuple_text}
use Rattle.vt_base.specs.declared.value.Value.{Value}
use Rattle.vt_query.specs.declared.program.Pattern.{Pattern}
use Rattle.vt_model.specs.Model.{Model}
use Rattle.vt_history.specs.Events.{AreThose, IsCreated, IsDeleted, IsUpdated}
use Rattle.vt_session.specs.Buffers.{Denial, already_open, too_many_open, not_open, too_many_changes, refused}
use Rattle.vt_cli.specs.Refusals.{refusal_name}
use Rattle.vt_cli.specs.Lists.{match_line}

-- the names that are printed
pub record Names : Type 0 where
  pub enums : List EnumNames
  pub objects : List ObjectName

-- a command's word, the client or the pattern that it names, and what is told
abbrev pub told : List ℕ → List ℕ → List ℕ → List ℕ
told word name what = word ++ codes " " ++ name ++ codes ": " ++ what ++ codes "\n"

abbrev pub load_line : List ℕ
load_line = codes "load: step 0\n"

-- why a command is refused
abbrev pub denial_text : Denial → List ℕ
denial_text already_open = codes "refused AlreadyOpen"
denial_text too_many_open = codes "refused TooManyOpen"
denial_text not_open = codes "refused NotOpen"
denial_text too_many_changes = codes "refused TooManyChanges"
denial_text (refused stop) = codes "refused at " ++ decimal stop.at ++ codes " " ++ refusal_name stop.why

-- ---- events

-- something happened to a tuple of a pattern
abbrev pub HasEvent : Model → Model → List (List Value) → List (List Value) → List Value → Type 0
HasEvent before after old new row = IsCreated old new row ⊎ IsDeleted old new row ⊎ IsUpdated before after old new row

-- it came, it went, or else it was updated
abbrev pub event_mark : List (List Value) → List (List Value) → List Value → List ℕ
event_mark old new row =
    if has_row new row && not (has_row old row) then codes "+ "
    else if has_row old row && not (has_row new row) then codes "- "
    else codes "~ "

abbrev pub event_line : Names → Pattern → List (List Value) → List (List Value) → List Value → List ℕ
event_line names p old new row = codes "  " ++ event_mark old new row ++ p.name ++ tuple_text names.enums names.objects row ++ codes "\n"

-- the tuples that something happened to, in their order, each on a line
pub record IsEventText (names : Names) (p : Pattern) (before after : Model) (old new : List (List Value)) (text : List ℕ) : Type 0 where
  pub rows : List (List Value)
  pub those : AreThose (HasEvent before after old new) rows
  pub is : text ≡ flat_map (event_line names p old new) rows

-- nothing is told of a private pattern
abbrev pub WhereShown : Bool → (List ℕ → Type 0) → List ℕ → Type 0
WhereShown true Is text = Is text
WhereShown false Is text = text ≡ []

-- the events of each pattern in its order, over its tables before and after a step
abbrev pub AreEventTexts : Names → Model → Model → List Pattern → List (List (List Value)) → List (List (List Value)) → List ℕ → Type 0
AreEventTexts names before after (p ∷ patterns) (old ∷ olds) (new ∷ news) text = (first rest : List ℕ)
    × WhereShown p.shown (IsEventText names p before after old new) first
    × AreEventTexts names before after patterns olds news rest × (text ≡ first ++ rest)
AreEventTexts names before after patterns olds news text = text ≡ []

-- ---- match lists

-- how many matches there are, then each on a line
abbrev pub matches_text : Names → List ℕ → List (List Value) → List ℕ
matches_text names pattern rows =
    told (codes "matches") pattern (decimal (length rows)) ++ flat_map (match_line names.enums names.objects) rows
