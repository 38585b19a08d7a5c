-- How the answer of a reader stands to what its bytes spell.
use Rattle.std.specs.Prelude.{◌≡◌, ℕ, ◌==◌, if◌then◌else◌, List, [], ◌∷◌, ◌++◌, Result, Ok, Err, Option, Some, None}
use Rattle.vt_script.specs.declared.line.Line.{Line}
use Rattle.vt_script.specs.declared.fault.ScriptFault.{ScriptFault}
use Rattle.vt_script.specs.declared.fault.ScriptFault.TheVariants as fault
use Rattle.vt_script.specs.Script.{Fault}
use Rattle.vt_script.specs.declared.fault.Stuck.{Stuck}
use Rattle.vt_script.specs.declared.fault.Stuck.TheVariants.{NoCommand, NoMemory}

-- want of memory may stand for any answer
abbrev pub Fails : {A : Type 0} → Stuck → Option A → Type 0
Fails NoCommand due = due ≡ None
Fails NoMemory due = Unit {0}

-- what is answered is what is spelled, and where nothing is spelled there is no command
abbrev pub Gives : {A : Type 0} → Result A Stuck → Option A → Type 0
Gives (Ok x) due = due ≡ Some x
Gives (Err stuck) due = Fails stuck due

-- the same of the line with this number: where it is no command, that is its fault
abbrev pub IsAt : ℕ → Result Line ScriptFault → Option Line → Type 0
IsAt n (Ok command) due = due ≡ Some command
IsAt n (Err (fault.NotText m)) due = ⊥
IsAt n (Err (fault.Syntax m)) due = (due ≡ None) × (m ≡ n)
IsAt n (Err (fault.TooMany m)) due = ⊥
IsAt n (Err fault.NoMemory) due = Unit {0}

-- a line without the carriage return at its end
abbrev pub returned : List ℕ → List ℕ
returned [] = []
returned (b ∷ []) = if b == 13 then [] else b ∷ []
returned (b ∷ c ∷ bs) = b ∷ returned (c ∷ bs)

-- commands before others that were read
abbrev pub ahead : List Line → Result (List Line) Fault → Result (List Line) Fault
ahead front (Ok commands) = Ok (front ++ commands)
ahead front (Err fault) = Err fault
