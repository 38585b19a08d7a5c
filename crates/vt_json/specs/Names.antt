-- The names that documents give.
use Rattle.std.specs.Prelude.{ℕ, ◌&&◌, ◌||◌, ◌==◌, List, [], ◌∷◌, length, Bool, false, nat_lt, if◌then◌else◌, Option, Some, None}
use Rattle.std.specs.Char.{is_ascii_alphabetic, is_ascii_alphanumeric}
use Rattle.std.specs.List.{list_all}
use Rattle.serde_json.specs.Data.{Data}
use Rattle.serde_json.specs.Find.{as_str}
use Rattle.vt_facts.specs.Parts.{◌>>=◌}

-- an ASCII letter or `_`
abbrev pub begins_name : ℕ → Bool
begins_name b = is_ascii_alphabetic b || b == 95

-- an ASCII letter, a digit or `_`
abbrev pub continues_identifier : ℕ → Bool
continues_identifier b = is_ascii_alphanumeric b || b == 95

-- one of these, `-` or `.`
abbrev pub continues_object_name : ℕ → Bool
continues_object_name b = continues_identifier b || b == 45 || b == 46

-- a byte that begins a name and bytes that continue it, 64 in all at most
abbrev pub is_name : (ℕ → Bool) → List ℕ → Bool
is_name continues [] = false
is_name continues (b ∷ bs) = begins_name b && list_all continues bs && nat_lt (length bs) 64

-- the name of an enum, a literal, a class or a feature
abbrev pub identifier : Data → Option (List ℕ)
identifier d = do
  text ← as_str d
  if is_name continues_identifier text then Some text else None

-- the name of an object
abbrev pub object_name : Data → Option (List ℕ)
object_name d = do
  text ← as_str d
  if is_name continues_object_name text then Some text else None
