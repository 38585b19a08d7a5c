-- What a metamodel document declares, and what its names stand for.
use Rattle.std.specs.Prelude.{ℕ, ◌+◌, ◌&&◌, ◌||◌, List, ◌++◌, map, find, position, codes, Bool, false, not, if◌then◌else◌, Option, Some, None, option_map, option_and_then, unwrap_or}
use Rattle.vt_base.specs.declared.numbers.ClassId.{ClassId}
use Rattle.vt_base.specs.declared.value.Kind.{Kind}
use Rattle.vt_base.specs.declared.value.Kind.TheVariants.{Int, Bool as Boolean, Text, Enum}
use Rattle.vt_facts.specs.Names.{is_name}
use Rattle.vt_meta.specs.declared.document.ClassDocument.{ClassDocument}
use Rattle.vt_meta.specs.declared.document.ReferenceDocument.{ReferenceDocument}
use Rattle.vt_meta.specs.declared.document.MetamodelDocument.{MetamodelDocument}

-- ---- names

-- the kinds have names of their own, which no enum or class may have
abbrev pub is_kind_name : List ℕ → Bool
is_kind_name name = is_name name (codes "int") || is_name name (codes "boolean") || is_name name (codes "string")

-- the items of a document are its enums and then its classes
abbrev pub item_names : MetamodelDocument → List (List ℕ)
item_names document = map (λ e. e.name) document.enums ++ map (λ c. c.name) document.classes

-- the features that a class declares
abbrev pub declared_names : ClassDocument → List (List ℕ)
declared_names c = map (λ a. a.name) c.attributes ++ map (λ r. r.name) c.references

-- ---- what a name stands for

abbrev pub class_place : MetamodelDocument → List ℕ → Option ℕ
class_place document name = position (λ c. is_name c.name name) document.classes

abbrev pub class_at : MetamodelDocument → List ℕ → Option ClassDocument
class_at document name = find (λ c. is_name c.name name) document.classes

-- a kind by its name, or an enum
abbrev pub kind_named : MetamodelDocument → List ℕ → Option Kind
kind_named document name =
    if is_name name (codes "int") then Some Int
    else if is_name name (codes "boolean") then Some Boolean
    else if is_name name (codes "string") then Some Text
    else option_map (λ e. Enum e) (position (λ e. is_name e.name name) document.enums)

-- a class by its name, where it is there
abbrev pub class_number : MetamodelDocument → List ℕ → ClassId
class_number document name = record { 0 = unwrap_or (class_place document name) 0 }

-- the supertypes of each class
abbrev pub supers_in : MetamodelDocument → List (List ClassId)
supers_in document = map (λ c. map (class_number document) c.supers) document.classes

-- ---- opposites

-- the reference of a name that the target of a reference declares
abbrev pub declared_there : MetamodelDocument → ReferenceDocument → List ℕ → Option ReferenceDocument
declared_there document r name = option_and_then (λ target. find (λ s. is_name s.name name) target.references) (class_at document r.target)

-- the reference that a reference names as its opposite
abbrev pub opposite_in : MetamodelDocument → ReferenceDocument → Option ReferenceDocument
opposite_in document r = option_and_then (declared_there document r) r.opposite

abbrev pub names_opposite : List ℕ → Option (List ℕ) → Bool
names_opposite name None = false
names_opposite name (Some other) = is_name other name

-- another reference, which leads back to the class and names the first as its opposite
abbrev pub answers : ClassDocument → ReferenceDocument → ReferenceDocument → Bool
answers c r s = is_name s.target c.name && names_opposite r.name s.opposite && not (is_name r.target c.name && is_name s.name r.name)
