-- Files under names, and what is fetched of them.
use Rattle.std.specs.Prelude.{◌≡◌, ◌≤◌, ◌+◌, ℕ, nat_eq, nat_lt, if◌then◌else◌, List, length, find, Option, Some, None, option_map}
use Rattle.std.specs.Cmp.Lexicographic.{pointwise}
use Rattle.vt_outside.specs.declared.shelf.Fetched.{Fetched}
use Rattle.vt_outside.specs.declared.shelf.Fetched.TheVariants.{Bytes, Absent, Long}

-- names, each with the bytes of its file
abbrev pub NamedFiles : Type 0
NamedFiles = List (List ℕ × List ℕ)

-- the bytes of the first file with this name
abbrev pub file_at : NamedFiles → List ℕ → Option (List ℕ)
file_at files name = option_map (λ file. file.1) (find (λ file. pointwise nat_eq file.0 name) files)

-- what a limit lets through of a file: its bytes, or that it has more
abbrev pub fetched_of : ℕ → Option (List ℕ) → Fetched
fetched_of limit None = Absent
fetched_of limit (Some bytes) = if nat_lt limit (length bytes) then Long (limit + 1) else Bytes bytes

-- no more bytes than the limit are handed out, and a file that is too long is told as one byte past it
abbrev pub IsWithin : ℕ → Fetched → Type 0
IsWithin limit (Bytes bytes) = length bytes ≤ limit
IsWithin limit Absent = Unit {0}
IsWithin limit (Long count) = count ≡ limit + 1
