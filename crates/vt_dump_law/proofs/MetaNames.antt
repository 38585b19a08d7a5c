-- The names of a metamodel that is read find what they name, and are text.
use Rattle.std.proofs.Common.{◌≡◌, ℕ, ◌+◌, List, [], ◌∷◌, length, refl, ap, subst, ◌∙◌, true, IsUtf8}
use Rattle.std.specs.Prelude.{not, All, Option, Some, None, Ok, option_map}
use Rattle.std.proofs.lemmas.Bool.{or_parts, not-false}
use Rattle.std.proofs.lemmas.List.Elements.{All-nil, All-append, All-head, All-tail, All-map, All-weaker}
use Rattle.serde_json.specs.Data.{Data}
use Rattle.vt_json.specs.Json.{json_of}
use Rattle.vt_model.specs.Metamodel.{Metamodel, class_named}
use Rattle.vt_meta.specs.Document.{document_shape}
use Rattle.vt_facts.specs.Names.{is_name, is_distinct}
use Rattle.vt_meta.specs.Built.{Declared, declared_by, attributes_from, references_from, enum_info, class_info, attr_info, ref_info, metamodel_of}
use Rattle.vt_meta.specs.Faults.{Fault, duplicate_name, first_of, is_taken, is_bad_enum, is_bad_class, first_place, or_else, duplicate_place, first_fault}
use Rattle.vt_meta.specs.Reading.{unless_faulty, judged, shaped, meta_of}
use Rattle.vt_model.specs.Sound.{IsSound}
use Rattle.vt_meta.specs.declared.document.ClassDocument.{ClassDocument}
use Rattle.vt_meta.specs.declared.document.AttributeDocument.{AttributeDocument}
use Rattle.vt_meta.specs.declared.document.ReferenceDocument.{ReferenceDocument}
use Rattle.vt_meta.specs.declared.document.MetamodelDocument.{MetamodelDocument}
use Rattle.vt_model.specs.declared.metamodel.EnumInfo.{EnumInfo}
use Rattle.vt_model.specs.declared.metamodel.ClassInfo.{ClassInfo}
use Rattle.vt_model.specs.declared.metamodel.AttrInfo.{AttrInfo}
use Rattle.vt_model.specs.declared.metamodel.RefInfo.{RefInfo}
use Rattle.vt_facts.proofs.PositionLemmas.{position-map}
use Rattle.vt_meta.proofs.Sound.{IsSound-metamodel_of}
use Rattle.vt_meta.proofs.Sound.Shapes.{HasLiterals-document_shape}
use Rattle.vt_model.proofs.SearchLemmas.{slice_get-from_map}
use Rattle.vt_meta.proofs.FirstLemmas.{first_place-at}
use Rattle.vt_meta.proofs.Sound.Faultless.{IsFaultless-first_fault}
use Rattle.vt_meta.proofs.Sound.Answered.{class_place-itself}
use Rattle.vt_dump_law.proofs.Given.{HasLiteralNames}
use Rattle.vt_dump_law.proofs.Objects.{HasClassNames}
use Rattle.vt_dump_law.proofs.MetaShapes.{IsNamedClass, IsNamedDocument-document_shape}

-- what the dump needs of a metamodel
pub record IsNamed (meta : Metamodel) : Type 0 where
  pub sound : IsSound meta
  pub class_names : HasClassNames meta
  pub literal_names : HasLiteralNames meta
  pub classes : All (λ i. IsUtf8 i.name) meta.classes
  pub attributes : All (λ i. IsUtf8 i.name) meta.attributes
  pub references : All (λ i. IsUtf8 i.name) meta.references
  pub literals : All (λ e. All IsUtf8 e.literals) meta.enums

-- ---- names that find

-- where no fault is the first, none of the first kind is there
no_duplicate : (p : Option ℕ) (faults : List (Option Fault)) → first_of (option_map duplicate_name p ∷ faults) ≡ None → p ≡ None
no_duplicate None faults e = refl
no_duplicate (Some n) faults e = cc

-- nor is there a first of the first two places
no_first : (p q : Option ℕ) → or_else p q ≡ None → p ≡ None
no_first None q e = refl
no_first (Some n) q e = cc

-- no enum of a document without a fault has a literal twice
first_place-enums : (document : MetamodelDocument) → first_fault document ≡ None → first_place (is_bad_enum document) 0 document.enums ≡ None
unfolding first_fault
first_place-enums document none =
    no_first (first_place (is_bad_enum document) 0 document.enums) (first_place (is_bad_class document) (length document.enums) document.classes)
    (no_duplicate (duplicate_place document) _ none)

module _ (document : MetamodelDocument) (none : first_fault document ≡ None) where
  -- no enum has a literal twice
  literal_names-metamodel_of : HasLiteralNames (metamodel_of document)
  literal_names-metamodel_of e enum at =
      let from = slice_get-from_map enum_info document.enums e enum at in
      let fine = first_place-at (is_bad_enum document) 0 document.enums e from.0 (first_place-enums document none) from.1 in
      let distinct = not-false (is_distinct from.0.literals) (or_parts (is_taken document (0 + e) from.0.name) (not (is_distinct from.0.literals)) fine).1 in
      subst (λ (i : EnumInfo). is_distinct i.literals ≡ true) from.2 distinct

  -- the name of each class finds it
  class_names-metamodel_of : HasClassNames (metamodel_of document)
  class_names-metamodel_of c info at =
      let from = slice_get-from_map class_info document.classes c.0 info at in
      let found = class_place-itself document (IsFaultless-first_fault document none) c.0 from.0 from.1 in
      let named : class_named (metamodel_of document) from.0.name ≡ Some c =
      ap (option_map (λ n. record { 0 = n })) (position-map class_info (λ (i : ClassInfo). is_name i.name from.0.name) document.classes ∙ found) in
      subst (λ (i : ClassInfo). class_named (metamodel_of document) i.name ≡ Some c) from.2 named

-- ---- names that are text

-- the names of attributes
attributes-utf8 : (n : ℕ) (cs : List ClassDocument) → All IsNamedClass cs → All (λ (d : Declared AttributeDocument). IsUtf8 d.feature.name) (attributes_from n cs)
attributes-utf8 n [] named = All-nil (λ (d : Declared AttributeDocument). IsUtf8 d.feature.name)
attributes-utf8 n (c ∷ cs) named =
    All-append (λ (d : Declared AttributeDocument). IsUtf8 d.feature.name) (declared_by n c.attributes) (attributes_from (n + 1) cs)
    (All-map (λ (d : Declared AttributeDocument). IsUtf8 d.feature.name) (λ (f : AttributeDocument). record { class = record { 0 = n }; feature = f }) c.attributes (All-head IsNamedClass c cs named).attributes)
    (attributes-utf8 (n + 1) cs (All-tail IsNamedClass c cs named))

-- and of references
references-utf8 : (n : ℕ) (cs : List ClassDocument) → All IsNamedClass cs → All (λ (d : Declared ReferenceDocument). IsUtf8 d.feature.name) (references_from n cs)
references-utf8 n [] named = All-nil (λ (d : Declared ReferenceDocument). IsUtf8 d.feature.name)
references-utf8 n (c ∷ cs) named =
    All-append (λ (d : Declared ReferenceDocument). IsUtf8 d.feature.name) (declared_by n c.references) (references_from (n + 1) cs)
    (All-map (λ (d : Declared ReferenceDocument). IsUtf8 d.feature.name) (λ (f : ReferenceDocument). record { class = record { 0 = n }; feature = f }) c.references (All-head IsNamedClass c cs named).references)
    (references-utf8 (n + 1) cs (All-tail IsNamedClass c cs named))

-- all names of a document that has its shape and no fault
IsNamed-metamodel_of : (d : Data) (document : MetamodelDocument) → document_shape d ≡ Some document → first_fault document ≡ None → IsNamed (metamodel_of document)
IsNamed-metamodel_of d document shape none =
    let named = IsNamedDocument-document_shape d document shape in
    record {
      sound = IsSound-metamodel_of document (HasLiterals-document_shape d document shape) none;
      class_names = class_names-metamodel_of document none;
      literal_names = literal_names-metamodel_of document none;
      classes = All-map (λ (i : ClassInfo). IsUtf8 i.name) class_info document.classes (All-weaker IsNamedClass (λ c. IsUtf8 c.name) (λ c is. is.name) document.classes named.classes);
      attributes = All-map (λ (i : AttrInfo). IsUtf8 i.name) (attr_info document) (attributes_from 0 document.classes) (attributes-utf8 0 document.classes named.classes);
      references = All-map (λ (i : RefInfo). IsUtf8 i.name) (ref_info document) (references_from 0 document.classes) (references-utf8 0 document.classes named.classes);
      literals = All-map (λ (i : EnumInfo). All IsUtf8 i.literals) enum_info document.enums named.enums;
    }

-- ---- what bytes spell

pub IsNamed-meta_of : (bytes : List ℕ) (meta : Metamodel) → meta_of bytes ≡ Ok meta → IsNamed meta
unfolding meta_of
IsNamed-meta_of bytes meta e = of_json (json_of bytes) e
  where
    of_document : (d : Data) (document : MetamodelDocument) → document_shape d ≡ Some document → (fault : Option Fault) → first_fault document ≡ fault
        → unless_faulty fault (metamodel_of document) ≡ Ok meta → IsNamed meta
    of_document d document shape None none e = let is : metamodel_of document ≡ meta = cc in subst IsNamed is (IsNamed-metamodel_of d document shape none)
    of_document d document shape (Some fault) has e = cc

    of_shape : (d : Data) (o : Option MetamodelDocument) → document_shape d ≡ o → judged o ≡ Ok meta → IsNamed meta
    of_shape d None shape e = cc
    of_shape d (Some document) shape e = of_document d document shape (first_fault document) refl e

    of_json : (o : Option Data) → shaped o ≡ Ok meta → IsNamed meta
    of_json None e = cc
    of_json (Some d) e = of_shape d (document_shape d) refl e
