-- A metamodel that is read is sound.
pub mod Flat
pub mod Shapes
pub mod Faultless
pub mod Kinds
pub mod Answered
pub mod Opposites
use Rattle.std.proofs.Common.{◌≡◌, ℕ, ◌+◌, List, length, refl, sym, ap, subst, ◌∙◌, arith, true}
use Rattle.std.specs.Prelude.{◌<◌, All, map, slice_get, Option, Some, None, Ok}
use Rattle.std.proofs.lemmas.Bool.{not-false}
use Rattle.std.proofs.lemmas.List.{length-map}
use Rattle.std.proofs.lemmas.List.Elements.{All-map, All-weaker}
use Rattle.serde_json.specs.Data.{Data}
use Rattle.vt_base.specs.declared.numbers.AttrId.{AttrId}
use Rattle.vt_base.specs.declared.numbers.ClassId.{ClassId}
use Rattle.vt_base.specs.declared.numbers.RefId.{RefId}
use Rattle.vt_json.specs.Json.{json_of}
use Rattle.vt_model.specs.Metamodel.{Metamodel, feature_names}
use Rattle.vt_meta.specs.Document.{document_shape}
use Rattle.vt_facts.specs.Names.{is_distinct}
use Rattle.vt_meta.specs.Declarations.{class_number, supers_in}
use Rattle.vt_meta.specs.Inside.Above.{supers_places}
use Rattle.vt_meta.specs.Built.{Declared, metamodel_of, attributes_from, references_from, attr_info, ref_info, class_info}
use Rattle.vt_meta.specs.Faults.{Fault, first_fault}
use Rattle.vt_meta.specs.Reading.{unless_faulty, judged, shaped, meta_of}
use Rattle.vt_model.specs.Sound.{IsAttributeKind, Answers, IsSound}
use Rattle.vt_meta.specs.declared.document.AttributeDocument.{AttributeDocument}
use Rattle.vt_meta.specs.declared.document.ReferenceDocument.{ReferenceDocument}
use Rattle.vt_meta.specs.declared.document.MetamodelDocument.{MetamodelDocument}
use Rattle.vt_model.specs.declared.metamodel.AttrInfo.{AttrInfo}
use Rattle.vt_model.specs.declared.metamodel.RefInfo.{RefInfo}
use Rattle.vt_model.proofs.SearchLemmas.{slice_get-from_map, slice_get-below}
use Rattle.vt_meta.specs.Inside.Literals.{HasLiterals}
use Rattle.vt_model.proofs.AboveLemmas.{there-ids}
use Rattle.vt_meta.proofs.BuildingLemmas.{attributes_below, references_below}
use Rattle.vt_meta.proofs.SupersLemmas.{length-supers_places, place_below, there_supers, ids_supers_places}
use Rattle.vt_meta.proofs.Sound.Shapes.{HasLiterals-document_shape}
use Rattle.vt_meta.proofs.Sound.Faultless.{IsFaultless, IsFaultless-first_fault}
use Rattle.vt_meta.proofs.Sound.Kinds.{IsAttributeKind-kind_named}
use Rattle.vt_meta.proofs.Sound.Answered.{IsPaired-opposite}
use Rattle.vt_meta.proofs.Sound.Opposites.{Answers-paired}

module _ (document : MetamodelDocument) where
  -- each attribute has a kind of attributes
  kinds-metamodel_of : HasLiterals document → (a : AttrId) (info : AttrInfo) → slice_get (metamodel_of document).attributes a.0 ≡ Some info → IsAttributeKind (metamodel_of document) info.kind
  kinds-metamodel_of literals a info e =
      let from = slice_get-from_map (attr_info document) (attributes_from 0 document.classes) a.0 info e in
      subst (λ (i : AttrInfo). IsAttributeKind (metamodel_of document) i.kind) from.2 (IsAttributeKind-kind_named document literals from.0.feature.kind)

  -- each opposite answers
  opposites-metamodel_of : IsFaultless document → (r s : RefId) (info : RefInfo) → slice_get (metamodel_of document).references r.0 ≡ Some info → info.opposite ≡ Some s
      → Answers (metamodel_of document) r info s
  opposites-metamodel_of fine r s info e opposite =
      let from = slice_get-from_map (ref_info document) (references_from 0 document.classes) r.0 info e in
      let named : (ref_info document from.0).opposite ≡ Some s = ap (λ (i : RefInfo). i.opposite) from.2 ∙ opposite in
      subst (λ i. Answers (metamodel_of document) r i s) from.2
      (Answers-paired document fine r.0 from.0 s from.1 (IsPaired-opposite document fine r.0 from.0 s from.1 named))

  -- each class's features have different names
  features-metamodel_of : IsFaultless document → (c : ClassId) → c.0 < length (metamodel_of document).classes → is_distinct (feature_names (metamodel_of document) c) ≡ true
  features-metamodel_of fine c below =
      let long : length (metamodel_of document).classes ≡ length document.classes = length-map document.classes class_info in
      let at = slice_get-below document.classes c.0 (omega (arith, below, long)) in
      not-false (is_distinct (feature_names (metamodel_of document) c)) (fine.features c.0 at.0 at.1)

  -- ---- classes that are there

  abbrev count : ℕ
  count = length (metamodel_of document).classes

  same_count : count ≡ length document.classes
  same_count = length-map document.classes class_info

  same_from : 0 + length document.classes ≡ count
  same_from = omega (arith, same_count)

  one_list-metamodel_of : length (supers_in document) ≡ count
  one_list-metamodel_of = length-map document.classes (λ c. map (class_number document) c.supers) ∙ sym same_count

  supers-metamodel_of : All (All (λ (e : ClassId). e.0 < count)) (supers_in document)
  supers-metamodel_of =
      let many : length (supers_places document) ≡ count = length-supers_places document ∙ sym same_count in
      subst (λ n. All (All (λ (e : ClassId). e.0 < n)) (supers_in document)) many
      (subst (All (All (λ (e : ClassId). e.0 < length (supers_places document)))) (ids_supers_places document)
      (there-ids (supers_places document) (there_supers document)))

  owners-metamodel_of : All (λ (a : AttrInfo). a.class.0 < count) (metamodel_of document).attributes
  owners-metamodel_of = All-map (λ (a : AttrInfo). a.class.0 < count) (attr_info document) (attributes_from 0 document.classes)
      (subst (λ n. All (λ (d : Declared AttributeDocument). d.class.0 < n) (attributes_from 0 document.classes)) same_from (attributes_below 0 document.classes))

  sources-metamodel_of : All (λ (r : RefInfo). r.class.0 < count) (metamodel_of document).references
  sources-metamodel_of = All-map (λ (r : RefInfo). r.class.0 < count) (ref_info document) (references_from 0 document.classes)
      (subst (λ n. All (λ (d : Declared ReferenceDocument). d.class.0 < n) (references_from 0 document.classes)) same_from (references_below 0 document.classes))

  -- where something declares a reference there is a class
  targets-metamodel_of : All (λ (r : RefInfo). r.target.0 < count) (metamodel_of document).references
  targets-metamodel_of = All-map (λ (r : RefInfo). r.target.0 < count) (ref_info document) (references_from 0 document.classes)
      (All-weaker (λ (d : Declared ReferenceDocument). d.class.0 < 0 + length document.classes) (λ (d : Declared ReferenceDocument). (class_number document d.feature.target).0 < count)
      (λ d below. subst (λ n. (class_number document d.feature.target).0 < n) (sym same_count) (place_below document (omega (arith, below)) d.feature.target))
      (references_from 0 document.classes) (references_below 0 document.classes))

  -- ---- all of it

  -- the metamodel of a document that has its shape and no fault is sound
  pub IsSound-metamodel_of : HasLiterals document → first_fault document ≡ None → IsSound (metamodel_of document)
  IsSound-metamodel_of literals none =
      let fine = IsFaultless-first_fault document none in
      record {
        one_list = one_list-metamodel_of;
        supers = supers-metamodel_of;
        owners = owners-metamodel_of;
        sources = sources-metamodel_of;
        targets = targets-metamodel_of;
        kinds = kinds-metamodel_of literals;
        opposites = opposites-metamodel_of fine;
        features = features-metamodel_of fine;
      }

-- the same of a document that is another one
pub sound_document : (resolved document : MetamodelDocument) → resolved ≡ document → HasLiterals document → first_fault resolved ≡ None → IsSound (metamodel_of resolved)
sound_document resolved document same literals none = IsSound-metamodel_of resolved (subst HasLiterals (sym same) literals) none

-- what bytes spell is sound
pub IsSound-meta_of : (bytes : List ℕ) (meta : Metamodel) → meta_of bytes ≡ Ok meta → IsSound meta
unfolding meta_of
IsSound-meta_of bytes meta e = of_json (json_of bytes) e
  where
    of_document : (document : MetamodelDocument) → HasLiterals document → (fault : Option Fault) → first_fault document ≡ fault → unless_faulty fault (metamodel_of document) ≡ Ok meta → IsSound meta
    of_document document literals None none e = let is : metamodel_of document ≡ meta = cc in subst IsSound is (IsSound-metamodel_of document literals none)
    of_document document literals (Some fault) has e = cc

    of_shape : (d : Data) (o : Option MetamodelDocument) → document_shape d ≡ o → judged o ≡ Ok meta → IsSound meta
    of_shape d None shape e = cc
    of_shape d (Some document) shape e = of_document document (HasLiterals-document_shape d document shape) (first_fault document) refl e

    of_json : (o : Option Data) → shaped o ≡ Ok meta → IsSound meta
    of_json None e = cc
    of_json (Some d) e = of_shape d (document_shape d) refl e
