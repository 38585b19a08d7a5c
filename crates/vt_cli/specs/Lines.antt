-- The line that tells a fault.
use Rattle.std.specs.Prelude.{ℕ, List, ◌++◌, codes, decimal}
use Rattle.vt_cli.specs.declared.ending.Role.{Role}
use Rattle.vt_cli.specs.declared.ending.Role.TheVariants.{Metamodel, Model, Queries, Rules, Script}

-- how a line names a file
abbrev pub role_text : Role → List ℕ
role_text Metamodel = codes "metamodel"
role_text Model = codes "model"
role_text Queries = codes "queries"
role_text Rules = codes "rules"
role_text Script = codes "script"

-- the words are no command
abbrev pub usage_line : List ℕ
usage_line = codes "fault: usage\n"

-- the file isn't there
abbrev pub missing_line : Role → List ℕ
missing_line role = codes "fault: " ++ role_text role ++ codes " missing\n"

-- the device failed to give the file
abbrev pub unreadable_line : Role → List ℕ
unreadable_line role = codes "fault: " ++ role_text role ++ codes " unreadable\n"

-- the file has at least this many bytes, which are too many
abbrev pub too_large_line : Role → ℕ → List ℕ
too_large_line role len = codes "fault: " ++ role_text role ++ codes " too large " ++ decimal len ++ codes "\n"

-- the name of a document's fault, and its place
abbrev pub input_line : Role → List ℕ → ℕ → List ℕ
input_line role name place = codes "fault: " ++ role_text role ++ codes " " ++ name ++ codes " " ++ decimal place ++ codes "\n"
