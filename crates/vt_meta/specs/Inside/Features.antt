-- The names of the features that classes declare, by the places of the classes.
use Rattle.std.specs.Prelude.{ℕ, List, [], slice_get}
use Rattle.std.specs.List.{flat_map}
use Rattle.std.specs.Option.{option_map_or}
use Rattle.vt_meta.specs.Declarations.{declared_names}
use Rattle.vt_meta.specs.declared.document.ClassDocument.{ClassDocument}

-- of the class at a place
abbrev pub names_at : List ClassDocument → ℕ → List (List ℕ)
names_at classes place = option_map_or declared_names (slice_get classes place) []

-- of the classes at some places, one after another
abbrev pub names_at_each : List ClassDocument → List ℕ → List (List ℕ)
names_at_each classes places = flat_map (names_at classes) places
