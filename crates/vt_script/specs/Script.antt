-- The commands of a script, or its first fault.
use Rattle.std.specs.Prelude.{◌≡◌, ℕ, ◌+◌, ◌==◌, ◌&&◌, ◌||◌, if◌then◌else◌, List, [], ◌∷◌, slice_get, Bool, false, Option, Some, None, Result, Ok, Err}
use Rattle.std.specs.List.{list_all}
use Rattle.std.specs.Str.{is_utf8}
use Rattle.vt_facts.specs.Lines.{lines_of}
use Rattle.vt_script.specs.declared.line.Line.{Line}
use Rattle.vt_script.specs.declared.fault.ScriptFault.{ScriptFault}
use Rattle.vt_script.specs.declared.fault.ScriptFault.TheVariants.{NotText, Syntax, TooMany, NoMemory}
use Rattle.vt_script.specs.Commands.{command_of}

-- why bytes are no script, and on which line
pub data Fault : Type 0 where
  not_text : ℕ → Fault
  syntax_at : ℕ → Fault
  too_many : ℕ → Fault

-- nothing, or spaces and tabs alone
abbrev pub is_blank : List ℕ → Bool
is_blank bytes = list_all (λ b. b == 32 || b == 9) bytes

-- `//` and anything behind it
abbrev pub is_remark : List ℕ → Bool
is_remark (a ∷ b ∷ bs) = a == 47 && b == 47
is_remark bytes = false

-- a line with its number
pub record Numbered : Type 0 where
  pub number : ℕ
  pub bytes : List ℕ

-- the lines that are neither blank nor remarks, where the first of all has this number
abbrev pub written : ℕ → List (List ℕ) → List Numbered
written n [] = []
written n (bytes ∷ lines) = if is_blank bytes || is_remark bytes then written (n + 1) lines else record { number = n; bytes = bytes } ∷ written (n + 1) lines

-- a command and those that follow it
abbrev pub followed : ℕ → Option Line → Result (List Line) Fault → Result (List Line) Fault
followed n None rest = Err (syntax_at n)
followed n (Some command) (Ok commands) = Ok (command ∷ commands)
followed n (Some command) (Err fault) = Err fault

-- the commands of lines, or the first line that is none
abbrev pub commands_of : List Numbered → Result (List Line) Fault
commands_of [] = Ok []
commands_of (w ∷ ws) = followed w.number (command_of w.bytes) (commands_of ws)

-- where all are commands, the first that is one too many
abbrev pub limited : Result (List Line) Fault → Option Numbered → Result (List Line) Fault
limited (Err fault) extra = Err fault
limited (Ok commands) (Some w) = Err (too_many w.number)
limited (Ok commands) None = Ok commands

-- the commands of the lines of a text, which are 100,000 at most
abbrev pub text_script : List Numbered → Result (List Line) Fault
text_script ws = limited (commands_of ws) (slice_get ws 100000)

-- the commands that bytes spell, or the first fault
unfoldable pub script_of : List ℕ → Result (List Line) Fault
script_of bytes = if is_utf8 bytes then text_script (written 1 (lines_of bytes)) else Err (not_text 1)

-- a call answers the fault that there is; want of memory may stand for any answer
abbrev pub IsFaultOf : ScriptFault → Result (List Line) Fault → Type 0
IsFaultOf (NotText n) due = due ≡ Err (not_text n)
IsFaultOf (Syntax n) due = due ≡ Err (syntax_at n)
IsFaultOf (TooMany n) due = due ≡ Err (too_many n)
IsFaultOf NoMemory due = Unit {0}
