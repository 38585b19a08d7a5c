-- The commands, each with what stands in its line.
use Rattle.std.specs.Prelude.{ℕ, List, [], ◌∷◌, codes, if◌then◌else◌, Option, Some, None, option_map}
use Rattle.vt_facts.specs.Firsts.{first_of}
use Rattle.vt_facts.specs.Names.{is_name as is_word}
use Rattle.vt_facts.specs.Parts.{◌>>=◌}
use Rattle.vt_model.specs.declared.change.Change.{Change}
use Rattle.vt_model.specs.declared.change.Change.TheVariants as change
use Rattle.vt_script.specs.declared.line.Line.{Line}
use Rattle.vt_script.specs.declared.line.Line.TheVariants as line
use Rattle.vt_script.specs.declared.verbs.Verb.{Verb}
use Rattle.vt_script.specs.declared.verbs.Verb.TheVariants as verb
use Rattle.vt_script.specs.declared.verbs.Edit.{Edit}
use Rattle.vt_script.specs.declared.verbs.Edit.TheVariants as edit
use Rattle.vt_script.specs.Words.{cut, identifier, object_name, number, value, policy, something}

-- one part, to the line's end
abbrev pub one : {A Made : Type 0} → (List ℕ → Option A) → (A → Made) → List ℕ → Option Made
one a make bytes = option_map make (a bytes)

-- two parts with a space between them, the second to the line's end
abbrev pub two : {A B Made : Type 0} → (List ℕ → Option A) → (List ℕ → Option B) → (A → B → Made) → List ℕ → Option Made
two a b make bytes = cut bytes >>= λ parts. a parts.0 >>= λ x. one b (make x) parts.1

-- three parts with spaces between them
abbrev pub three : {A B C Made : Type 0} → (List ℕ → Option A) → (List ℕ → Option B) → (List ℕ → Option C) → (A → B → C → Made) → List ℕ → Option Made
three a b c make bytes = cut bytes >>= λ parts. a parts.0 >>= λ x. two b c (make x) parts.1

-- the words that begin a command and have more behind them
unfoldable pub verb_of : List ℕ → Option Verb
verb_of word = first_of
    ((is_word word (codes "begin"), verb.Begin)
    ∷ (is_word word (codes "commit"), verb.Commit)
    ∷ (is_word word (codes "abort"), verb.Abort)
    ∷ (is_word word (codes "change"), verb.Change)
    ∷ (is_word word (codes "fire"), verb.Fire)
    ∷ (is_word word (codes "swap"), verb.Swap)
    ∷ (is_word word (codes "matches"), verb.Matches)
    ∷ (is_word word (codes "activations"), verb.Activations)
    ∷ (is_word word (codes "group"), verb.Group)
    ∷ [])

-- the words that begin a change
unfoldable pub edit_of : List ℕ → Option Edit
edit_of word = first_of
    ((is_word word (codes "create"), edit.Create)
    ∷ (is_word word (codes "delete"), edit.Delete)
    ∷ (is_word word (codes "set"), edit.Set)
    ∷ (is_word word (codes "unset"), edit.Unset)
    ∷ (is_word word (codes "link"), edit.Link)
    ∷ (is_word word (codes "unlink"), edit.Unlink)
    ∷ (is_word word (codes "move"), edit.Move)
    ∷ [])

-- the change that an edit's word makes of what stands behind it
abbrev pub edited : Edit → List ℕ → Option Change
edited edit.Create rest = two object_name identifier (λ name class. change.Create name class None) rest
edited edit.Delete rest = one object_name change.Delete rest
edited edit.Set rest = three object_name identifier value change.Set rest
edited edit.Unset rest = two object_name identifier change.Unset rest
edited edit.Link rest = three object_name identifier object_name change.Link rest
edited edit.Unlink rest = three object_name identifier object_name change.Unlink rest
edited edit.Move rest = three object_name object_name identifier change.Move rest

-- the change that is written behind the client's name
unfoldable pub change_of : List ℕ → Option Change
change_of bytes = cut bytes >>= λ parts. edit_of parts.0 >>= λ e. edited e parts.1

-- the command that a word makes of what stands behind it
abbrev pub commanded : Verb → List ℕ → Option Line
commanded verb.Begin rest = one object_name line.Begin rest
commanded verb.Commit rest = one object_name line.Commit rest
commanded verb.Abort rest = one object_name line.Abort rest
commanded verb.Change rest = two object_name change_of line.Change rest
commanded verb.Fire rest = two identifier (number 100000) line.Fire rest
commanded verb.Swap rest = two identifier policy line.Swap rest
commanded verb.Matches rest = one identifier line.Matches rest
commanded verb.Activations rest = one identifier line.Activations rest
commanded verb.Group rest = three identifier (number 15) something line.Group rest

-- the command of a line
unfoldable pub command_of : List ℕ → Option Line
command_of bytes = if is_word bytes (codes "dump") then Some line.Dump else cut bytes >>= λ parts. verb_of parts.0 >>= λ v. commanded v parts.1
