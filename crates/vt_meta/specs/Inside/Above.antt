-- The supertypes of the classes of a document, by their places.
use Rattle.std.specs.Prelude.{ℕ, List, map, unwrap_or}
use Rattle.vt_meta.specs.Declarations.{class_place}
use Rattle.vt_meta.specs.declared.document.MetamodelDocument.{MetamodelDocument}

-- the places of classes by their names, where these are there
abbrev pub class_places : MetamodelDocument → List (List ℕ) → List ℕ
class_places document names = map (λ s. unwrap_or (class_place document s) 0) names

-- the supertypes of each class of a document
abbrev pub supers_places : MetamodelDocument → List (List ℕ)
supers_places document = map (λ c. class_places document c.supers) document.classes
