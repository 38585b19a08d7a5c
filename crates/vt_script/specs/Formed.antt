-- That each word of a command has its form, and what a string in quotes is.
use Rattle.std.specs.Prelude.{◌≡◌, ◌≢◌, ℕ, ◌≤◌, List, [], ◌++◌, codes, true, None}
use Rattle.vt_json.specs.Names.{is_name, continues_object_name}
use Rattle.vt_model.specs.declared.change.Change.{Change}
use Rattle.vt_model.specs.declared.change.Change.TheVariants as change
use Rattle.vt_script.specs.declared.line.Line.{Line}
use Rattle.vt_script.specs.declared.line.Line.TheVariants as line
use Rattle.vt_script.specs.Words.{is_identifier}

-- the name of an object or of a client
abbrev pub IsObjectName : List ℕ → Type 0
IsObjectName name = is_name continues_object_name name ≡ true

-- the name of a class, a feature, a pattern or an agenda
abbrev pub IsIdentifier : List ℕ → Type 0
IsIdentifier name = is_identifier name ≡ true

-- a new object gets the next number
abbrev pub IsFormedChange : Change → Type 0
IsFormedChange (change.Create name class number) = IsObjectName name × IsIdentifier class × (number ≡ None)
IsFormedChange (change.Delete name) = IsObjectName name
IsFormedChange (change.Set name attribute given) = IsObjectName name × IsIdentifier attribute
IsFormedChange (change.Unset name attribute) = IsObjectName name × IsIdentifier attribute
IsFormedChange (change.Link name reference target) = IsObjectName name × IsIdentifier reference × IsObjectName target
IsFormedChange (change.Unlink name reference target) = IsObjectName name × IsIdentifier reference × IsObjectName target
IsFormedChange (change.Move child parent reference) = IsObjectName child × IsObjectName parent × IsIdentifier reference

abbrev pub IsFormed : Line → Type 0
IsFormed (line.Begin client) = IsObjectName client
IsFormed (line.Commit client) = IsObjectName client
IsFormed (line.Abort client) = IsObjectName client
IsFormed (line.Change client edit) = IsObjectName client × IsFormedChange edit
IsFormed (line.Fire agenda n) = IsIdentifier agenda × (n ≤ 100000)
IsFormed (line.Swap agenda policy) = IsIdentifier agenda
IsFormed (line.Matches pattern) = IsIdentifier pattern
IsFormed (line.Activations agenda) = IsIdentifier agenda
IsFormed (line.Group pattern column rest) = IsIdentifier pattern × (column ≤ 15) × (rest ≢ [])
IsFormed line.Dump = Unit {0}
