-- How the answer of a reader stands to the reading of its grammar.
use Rattle.std.specs.Prelude.{◌≡◌, Result, Ok, Err, List, ◌++◌}
use Rattle.vt_grammar.specs.declared.lexeme.Lexeme.{Lexeme}
use Rattle.vt_grammar.specs.declared.stop.Stop.{Stop}
use Rattle.vt_grammar.specs.declared.stop.Stop.TheVariants.{NoMemory, Fault}
use Rattle.vt_grammar.specs.Reading.{Read, ◌>>=◌}

-- a fault is the reading's, and want of memory may stand for any outcome
abbrev pub Fails : {Y : Type 0} → Stop → Read Y → Type 0
Fails NoMemory read = Unit {0}
Fails (Fault n) read = read ≡ Err n

-- what was answered, seen by the view, is what the reading gives, and a stop is its fault
abbrev pub Gives : {X Y : Type 0} → (X → Y × List Lexeme) → Result X Stop → Read Y → Type 0
Gives view (Ok x) read = read ≡ Ok (view x)
Gives view (Err stop) read = Fails stop read

-- the values of a reading, behind others that were read before
abbrev pub ahead : {A : Type 0} → List A → Read (List A) → Read (List A)
ahead front r = r >>= λ x. Ok (front ++ x.0, x.1)
