-- The names that a printed value needs: those of enums, of their literals, and of objects.
use Rattle.std.specs.Prelude.{ℕ, List, nat_eq, ◌==◌, position, find, slice_get, IsSome, Option, option_map, option_and_then}
use Rattle.std.specs.List.{AllByRecursion}
use Rattle.std.specs.Cmp.Lexicographic.{pointwise}
use Rattle.vt_base.specs.declared.numbers.ObjId.{ObjId}
use Rattle.vt_base.specs.declared.value.Value.{Value}
use Rattle.vt_base.specs.declared.value.Value.TheVariants.{Bool, Int, Text, Enum, Obj}

-- the name of an enum, and the names of its literals, by their numbers
pub record EnumNames : Type 0 where
  pub name : List ℕ
  pub literals : List (List ℕ)

-- the name of an object
pub record ObjectName : Type 0 where
  pub object : ObjId
  pub name : List ℕ

-- the numbers of an enum and of a literal of it, by their names
abbrev pub literal_numbers : List EnumNames → List ℕ → List ℕ → Option (ℕ × ℕ)
literal_numbers enums enum literal = option_and_then
    (λ e. option_and_then
    (λ found. option_map (λ l. (e, l)) (position (pointwise nat_eq literal) found.literals))
    (slice_get enums e))
    (position (λ e. pointwise nat_eq enum e.name) enums)

-- the names of an enum and of a literal of it, by their numbers
abbrev pub literal_names : List EnumNames → ℕ → ℕ → Option (List ℕ × List ℕ)
literal_names enums e l = option_and_then
    (λ enum. option_map (λ literal. (enum.name, literal)) (slice_get enum.literals l))
    (slice_get enums e)

-- the name of an object, by its number
abbrev pub object_name : List ObjectName → ObjId → Option (List ℕ)
object_name objects o = option_map (λ n. n.name) (find (λ n. n.object.0 == o.0) objects)

-- what a value names has a name
abbrev pub IsNamed : List EnumNames → List ObjectName → Value → Type 0
IsNamed enums objects (Bool b) = Unit {0}
IsNamed enums objects (Int n) = Unit {0}
IsNamed enums objects (Text s) = Unit {0}
IsNamed enums objects (Enum e l) = IsSome (literal_names enums e l)
IsNamed enums objects (Obj o) = IsSome (object_name objects o)

-- what the values of a tuple name has a name
abbrev pub AreNamed : List EnumNames → List ObjectName → List Value → Type 0
AreNamed enums objects values = AllByRecursion (IsNamed enums objects) values
