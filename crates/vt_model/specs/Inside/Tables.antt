-- What the tables of a metamodel hold.
use Rattle.std.specs.Prelude.{◌≡◌, ℕ, ◌==◌, List, map, length, nat_eq, position, slice_get, unwrap_or, Bool, false, Option, option_and_then}
use Rattle.std.specs.List.{range_with_len}
use Rattle.std.specs.Option.{option_map_or}
use Rattle.std.specs.Cmp.Lexicographic.{pointwise}
use Rattle.vt_base.specs.declared.numbers.ClassId.{ClassId}
use Rattle.vt_model.specs.Metamodel.{is_within}
use Rattle.vt_model.specs.Places.{place_in}
use Rattle.vt_model.specs.Above.{class_id, ids}
use Rattle.vt_model.specs.declared.places.Places.{Places}
use Rattle.vt_model.specs.declared.metamodel.EnumInfo.{EnumInfo}
use Rattle.vt_model.specs.declared.metamodel.ClassInfo.{ClassInfo}

-- ---- names

-- finds each enum by its name
abbrev pub FindsEnumInfo : List EnumInfo → Places → Type 0
FindsEnumInfo enums p = (name : List ℕ) → place_in p name ≡ position (λ e. pointwise nat_eq e.name name) enums

-- finds each class by its name
abbrev pub FindsClassInfo : List ClassInfo → Places → Type 0
FindsClassInfo classes p = (name : List ℕ) → place_in p name ≡ position (λ c. pointwise nat_eq c.name name) classes

-- the place of a literal among those of the enum at a place
abbrev pub literal_place : List EnumInfo → ℕ → List ℕ → Option ℕ
literal_place enums e literal = option_and_then (λ found. position (pointwise nat_eq literal) found.literals) (slice_get enums e)

-- ---- classes above a class

-- a mark for each class: whether it is a class or above it
abbrev pub above_row : List (List ℕ) → ℕ → List Bool
above_row supers c = map (λ d. is_within (ids supers) (length supers) (class_id c) (class_id d)) (range_with_len 0 (length supers))

-- such a row for each class
abbrev pub above_table : List (List ℕ) → List (List Bool)
above_table supers = map (above_row supers) (range_with_len 0 (length supers))

-- a class that isn't there is above itself alone
abbrev pub is_marked : List (List Bool) → ℕ → ℕ → Bool
is_marked rows c d = option_map_or (λ row. unwrap_or (slice_get row d) false) (slice_get rows c) (c == d)

-- the marks are those of the classes above one another
abbrev pub MarksAbove : List (List ClassId) → ℕ → List (List Bool) → Type 0
MarksAbove supers count rows = (c d : ClassId) → is_marked rows c.0 d.0 ≡ is_within supers count c d
