-- Metamodel documents: the keys of each object, with their defaults.
use Rattle.std.specs.Prelude.{◌&&◌, List, [], ◌∷◌, codes, Bool, false, if◌then◌else◌, ◌==◌, Option, Some, None}
use Rattle.std.specs.Option.{option_map_or}
use Rattle.serde_json.specs.Data.{Data}
use Rattle.serde_json.specs.Find.{as_str, as_bool}
use Rattle.vt_json.specs.Shape.{has_only, required, defaulted, optional, list_of, whole_number}
use Rattle.vt_json.specs.Names.{identifier}
use Rattle.vt_meta.specs.declared.document.EnumDocument.{EnumDocument}
use Rattle.vt_meta.specs.declared.document.ClassDocument.{ClassDocument}
use Rattle.vt_meta.specs.declared.document.AttributeDocument.{AttributeDocument}
use Rattle.vt_meta.specs.declared.document.ReferenceDocument.{ReferenceDocument}
use Rattle.vt_meta.specs.declared.document.MetamodelDocument.{MetamodelDocument}
use Rattle.vt_facts.specs.Parts.{◌>>=◌}

-- at least one item
abbrev pub some_of : {A : Type 0} → List A → Option (List A)
some_of [] = None
some_of (x ∷ xs) = Some (x ∷ xs)

abbrev pub enum_shape : Data → Option EnumDocument
enum_shape d = if has_only (codes "name" ∷ codes "literals" ∷ []) d then (do
  name ← required (codes "name") identifier d
  names ← required (codes "literals") (list_of identifier) d
  literals ← some_of names
  Some (record { name = name; literals = literals })) else None

abbrev pub attribute_shape : Data → Option AttributeDocument
attribute_shape d = if has_only (codes "name" ∷ codes "kind" ∷ []) d then (do
  name ← required (codes "name") identifier d
  kind ← required (codes "kind") as_str d
  Some (record { name = name; kind = kind })) else None

abbrev pub reference_shape : Data → Option ReferenceDocument
reference_shape d = if has_only (codes "name" ∷ codes "target" ∷ codes "many" ∷ codes "containment" ∷ codes "opposite" ∷ []) d then (do
  name ← required (codes "name") identifier d
  target ← required (codes "target") as_str d
  many ← defaulted (codes "many") false as_bool d
  containment ← defaulted (codes "containment") false as_bool d
  opposite ← optional (codes "opposite") identifier d
  Some (record { name = name; target = target; many = many; containment = containment; opposite = opposite })) else None

abbrev pub class_shape : Data → Option ClassDocument
class_shape d = if has_only (codes "name" ∷ codes "abstract" ∷ codes "supers" ∷ codes "attributes" ∷ codes "references" ∷ []) d then (do
  name ← required (codes "name") identifier d
  is_abstract ← defaulted (codes "abstract") false as_bool d
  supers ← defaulted (codes "supers") [] (list_of identifier) d
  attributes ← defaulted (codes "attributes") [] (list_of attribute_shape) d
  references ← defaulted (codes "references") [] (list_of reference_shape) d
  Some (record { name = name; is_abstract = is_abstract; supers = supers; attributes = attributes; references = references })) else None

-- `"format":1`
abbrev pub has_format_one : Data → Bool
has_format_one d = option_map_or (λ n. n == 1) (required (codes "format") whole_number d) false

abbrev pub document_shape : Data → Option MetamodelDocument
document_shape d = if has_only (codes "format" ∷ codes "uri" ∷ codes "enums" ∷ codes "classes" ∷ []) d && has_format_one d then (do
  uri ← defaulted (codes "uri") [] as_str d
  enums ← defaulted (codes "enums") [] (list_of enum_shape) d
  classes ← required (codes "classes") (list_of class_shape) d
  Some (record { uri = uri; enums = enums; classes = classes })) else None
