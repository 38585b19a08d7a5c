-- The metamodel of a document.
use Rattle.std.specs.Prelude.{ℕ, ◌+◌, ◌&&◌, ◌==◌, List, [], ◌∷◌, ◌++◌, map, position, unwrap_or, Option, option_and_then, option_map}
use Rattle.vt_base.specs.declared.value.Kind.TheVariants.{Int}
use Rattle.vt_base.specs.declared.numbers.ClassId.{ClassId}
use Rattle.vt_base.specs.declared.numbers.RefId.{RefId}
use Rattle.vt_model.specs.Metamodel.{Metamodel}
use Rattle.vt_meta.specs.Declarations.{kind_named, class_number, supers_in}
use Rattle.vt_facts.specs.Names.{is_name}
use Rattle.vt_model.specs.declared.metamodel.EnumInfo.{EnumInfo}
use Rattle.vt_model.specs.declared.metamodel.ClassInfo.{ClassInfo}
use Rattle.vt_model.specs.declared.metamodel.AttrInfo.{AttrInfo}
use Rattle.vt_model.specs.declared.metamodel.RefInfo.{RefInfo}
use Rattle.vt_meta.specs.declared.document.EnumDocument.{EnumDocument}
use Rattle.vt_meta.specs.declared.document.ClassDocument.{ClassDocument}
use Rattle.vt_meta.specs.declared.document.AttributeDocument.{AttributeDocument}
use Rattle.vt_meta.specs.declared.document.ReferenceDocument.{ReferenceDocument}
use Rattle.vt_meta.specs.declared.document.MetamodelDocument.{MetamodelDocument}

-- an attribute or a reference, with the number of the class that declares it
pub record Declared (F : Type 0) : Type 0 where
  pub class : ClassId
  pub feature : F

-- each with the class of this number
abbrev pub declared_by : {F : Type 0} → ℕ → List F → List (Declared F)
declared_by n features = map (λ f. record { class = record { 0 = n }; feature = f }) features

-- the attributes of the classes from the n-th on
abbrev pub attributes_from : ℕ → List ClassDocument → List (Declared AttributeDocument)
attributes_from n [] = []
attributes_from n (c ∷ cs) = declared_by n c.attributes ++ attributes_from (n + 1) cs

-- the references of the classes from the n-th on
abbrev pub references_from : ℕ → List ClassDocument → List (Declared ReferenceDocument)
references_from n [] = []
references_from n (c ∷ cs) = declared_by n c.references ++ references_from (n + 1) cs

-- the reference of this name that a class declares, by its number
abbrev pub reference_number : MetamodelDocument → ClassId → List ℕ → Option RefId
reference_number document c name = option_map (λ n. record { 0 = n })
    (position (λ d. d.class.0 == c.0 && is_name d.feature.name name) (references_from 0 document.classes))

abbrev pub enum_info : EnumDocument → EnumInfo
enum_info e = record { name = e.name; literals = e.literals }

abbrev pub class_info : ClassDocument → ClassInfo
class_info c = record { name = c.name; is_abstract = c.is_abstract }

abbrev pub attr_info : MetamodelDocument → Declared AttributeDocument → AttrInfo
attr_info document d = record { name = d.feature.name; class = d.class; kind = unwrap_or (kind_named document d.feature.kind) Int }

abbrev pub ref_info : MetamodelDocument → Declared ReferenceDocument → RefInfo
ref_info document d = record {
  name = d.feature.name;
  class = d.class;
  target = class_number document d.feature.target;
  many = d.feature.many;
  containment = d.feature.containment;
  opposite = option_and_then (reference_number document (class_number document d.feature.target)) d.feature.opposite;
}

-- all in the order of the document
abbrev pub metamodel_of : MetamodelDocument → Metamodel
metamodel_of document = record {
  uri = document.uri;
  enums = map enum_info document.enums;
  classes = map class_info document.classes;
  supers = supers_in document;
  attributes = map (attr_info document) (attributes_from 0 document.classes);
  references = map (ref_info document) (references_from 0 document.classes);
}
