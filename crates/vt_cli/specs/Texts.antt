-- The bytes of a command's files, or the outcome of the first that can't be had.
use Rattle.std.specs.Prelude.{ℕ, ◌+◌, Bool, true, false, List, [], ◌∷◌, length, nat_lt, if◌then◌else◌, Option, Some, None, Result, Ok, Err}
use Rattle.vt_outside.specs.Shelf.{NamedFiles, file_at}
use Rattle.vt_cli.specs.Lines.{missing_line, too_large_line}
use Rattle.vt_cli.specs.declared.ending.Role.{Role}
use Rattle.vt_cli.specs.declared.ending.Role.TheVariants as role
use Rattle.vt_cli.specs.declared.ending.Ending.TheVariants.{Missing, TooLarge}
use Rattle.vt_cli.specs.declared.ending.Outcome.{Outcome}

-- the most bytes of a file
abbrev pub file_limit : ℕ
file_limit = 16777216

-- the bytes of a file that is there and within the limit
abbrev pub bytes_of : Role → Option (List ℕ) → Result (List ℕ) Outcome
bytes_of role None = Err (record { ending = Missing role; text = missing_line role })
bytes_of role (Some bytes) = if nat_lt file_limit (length bytes)
    then Err (record { ending = TooLarge role (file_limit + 1); text = too_large_line role (file_limit + 1) })
    else Ok bytes

infixl 10 ◌>>=◌
-- what comes first decides, unless it lets the rest through
abbrev pub ◌>>=◌ : {A B : Type 0} → Result A Outcome → (A → Result B Outcome) → Result B Outcome
(Err outcome) >>= rest = Err outcome
(Ok x) >>= rest = rest x

-- the bytes of a command's files: the first that isn't there, or is too large, decides
abbrev pub texts_of : NamedFiles → List (Role × List ℕ) → Result (List (Role × List ℕ)) Outcome
texts_of known [] = Ok []
texts_of known (file ∷ rest) = do
  bytes ← bytes_of file.0 (file_at known file.1)
  texts ← texts_of known rest
  Ok ((file.0, bytes) ∷ texts)

abbrev pub is_same : Role → Role → Bool
is_same role.Metamodel role.Metamodel = true
is_same role.Model role.Model = true
is_same role.Queries role.Queries = true
is_same role.Rules role.Rules = true
is_same role.Script role.Script = true
is_same role other = false

-- the bytes of the file that is this to its command
abbrev pub text_of : Role → List (Role × List ℕ) → List ℕ
text_of role [] = []
text_of role (text ∷ rest) = if is_same role text.0 then text.1 else text_of role rest
