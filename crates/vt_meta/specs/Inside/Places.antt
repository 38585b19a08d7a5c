-- Names of a document by their places.
use Rattle.std.specs.Prelude.{◌≡◌, ℕ, List, map, slice_get, find, position, option_and_then, Option}
use Rattle.std.specs.List.{AllZip}
use Rattle.vt_facts.specs.Names.{is_name}
use Rattle.vt_model.specs.Places.{place_in, FindsIn}
use Rattle.vt_model.specs.declared.places.Places.{Places}
use Rattle.vt_meta.specs.declared.document.EnumDocument.{EnumDocument}
use Rattle.vt_meta.specs.declared.document.ClassDocument.{ClassDocument}
use Rattle.vt_meta.specs.declared.document.ReferenceDocument.{ReferenceDocument}
use Rattle.vt_meta.specs.declared.document.MetamodelDocument.{MetamodelDocument}

-- finds each enum by its name
abbrev pub FindsEnum : List EnumDocument → Places → Type 0
FindsEnum enums p = (name : List ℕ) → place_in p name ≡ position (λ e. is_name e.name name) enums

-- finds each class by its name
abbrev pub FindsClass : List ClassDocument → Places → Type 0
FindsClass classes p = (name : List ℕ) → place_in p name ≡ position (λ c. is_name c.name name) classes

-- the reference of a name that the class at a place declares
abbrev pub declared_at : MetamodelDocument → ℕ → List ℕ → Option ReferenceDocument
declared_at document class name = option_and_then (λ c. find (λ s. is_name s.name name) c.references) (slice_get document.classes class)

-- for each class, the places of the references that it declares
abbrev pub FindEachReference : List ClassDocument → List Places → Type 0
FindEachReference classes places = AllZip (λ c p. FindsIn (map (λ r. r.name) c.references) p) classes places

-- the same, asked by the place of the class
abbrev pub FindReferences : List ClassDocument → List Places → Type 0
FindReferences classes places = (i : ℕ) (name : List ℕ)
    → option_and_then (λ p. place_in p name) (slice_get places i)
    ≡ option_and_then (λ c. position (λ r. is_name r.name name) c.references) (slice_get classes i)
