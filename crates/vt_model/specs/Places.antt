-- Names by the places where they first stand in a list.
use Rattle.std.specs.Prelude.{◌≡◌, ℕ, List, position, if◌then◌else◌, Option, Some, None}
use Rattle.std.specs.Option.{option_or}
use Rattle.indexmap.specs.IndexMap.{get_by_text}
use Rattle.vt_facts.specs.Names.{is_name}
use Rattle.vt_model.specs.declared.places.Places.{Places}

-- the place that is kept for a name
abbrev pub place_in : Places → List ℕ → Option ℕ
place_in p name = get_by_text p.table name

-- finds each name where it first stands
abbrev pub FindsIn : List (List ℕ) → Places → Type 0
FindsIn names p = (name : List ℕ) → place_in p name ≡ position (λ n. is_name n name) names

-- a name that has no place gets this one
abbrev pub AddsPlace : Places → Places → List ℕ → ℕ → Type 0
AddsPlace old new added place = (name : List ℕ) → place_in new name ≡ option_or (place_in old name) (if is_name added name then Some place else None)
