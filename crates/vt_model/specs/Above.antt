-- The classes above some classes, by their places in a list.
use Rattle.std.specs.Prelude.{◌≡◌, ℕ, ◌<◌, Bool, List, [], map, length, slice_get, unwrap_or, nat_eq, All}
use Rattle.std.specs.List.{list_any, IsDistinct}
use Rattle.vt_base.specs.declared.numbers.ClassId.{ClassId}
use Rattle.vt_model.specs.Metamodel.{is_within}

-- the number of the class at a place
abbrev pub class_id : ℕ → ClassId
class_id n = record { 0 = n }

-- places of supertypes as their numbers
abbrev pub ids : List (List ℕ) → List (List ClassId)
ids supers = map (map class_id) supers

-- numbers of supertypes as their places
abbrev pub class_places : List ClassId → List ℕ
class_places classes = map (λ c. c.0) classes

abbrev pub places : List (List ClassId) → List (List ℕ)
places supers = map class_places supers

-- the supertypes of the class at a place
abbrev pub supers_at : List (List ℕ) → ℕ → List ℕ
supers_at supers c = unwrap_or (slice_get supers c) []

-- each supertype is a class that is there
abbrev pub AreThere : List (List ℕ) → Type 0
AreThere supers = All (All (λ e. e < length supers)) supers

-- a class is one of some classes or above one of them
abbrev pub is_above_any : List (List ℕ) → List ℕ → ℕ → Bool
is_above_any supers starts d = list_any (λ s. is_within (ids supers) (length supers) (class_id s) (class_id d)) starts

-- exactly some classes and those above them, each once
pub record IsAbove (supers : List (List ℕ)) (starts : List ℕ) (above : List ℕ) : Type 0 where
  pub distinct : IsDistinct nat_eq above
  pub there : All (λ x. x < length supers) above
  pub exact : (d : ℕ) → list_any (nat_eq d) above ≡ is_above_any supers starts d
