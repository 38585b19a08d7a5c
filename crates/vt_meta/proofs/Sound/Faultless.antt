-- What a document without a fault says of each of its classes.
use Rattle.std.proofs.Common.{◌≡◌, ℕ, ◌+◌, List, [], ◌∷◌, length, refl, subst, arith, Bool, false}
use Rattle.std.specs.Prelude.{slice_get, Option, Some, None, option_map}
use Rattle.std.specs.List.{list_any}
use Rattle.vt_meta.specs.Faults.{Fault, duplicate_name, unknown_type, super_cycle, bad_opposite, bad_containment, feature_clash, too_many, first_place, or_else, is_bad_enum, is_bad_class, duplicate_place, has_unknown_type, is_above_itself, lacks_opposite, is_bad_containment, has_clash, too_great, at_class, first_of, first_fault}
use Rattle.vt_meta.specs.declared.document.ClassDocument.{ClassDocument}
use Rattle.vt_meta.specs.declared.document.MetamodelDocument.{MetamodelDocument}
use Rattle.vt_meta.proofs.FirstLemmas.{first_place-at}
use Rattle.vt_facts.proofs.OptionLemmas.{option_map-None}

-- its name is its own and its features have different names, each of its references' opposites answers, and no feature clashes with one from above
pub record IsFaultless (document : MetamodelDocument) : Type 0 where
  pub names : (k : ℕ) (c : ClassDocument) → slice_get document.classes k ≡ Some c → is_bad_class document (length document.enums + k) c ≡ false
  pub opposites : (k : ℕ) (c : ClassDocument) → slice_get document.classes k ≡ Some c → list_any (lacks_opposite document c) c.references ≡ false
  pub containments : (k : ℕ) (c : ClassDocument) → slice_get document.classes k ≡ Some c → list_any (is_bad_containment document) c.references ≡ false
  pub features : (k : ℕ) (c : ClassDocument) → slice_get document.classes k ≡ Some c → has_clash document (record { 0 = k }) ≡ false

-- none of some faults is there, so neither is the first nor one of the rest
first_of-None : (fault : Option Fault) (faults : List (Option Fault)) → first_of (fault ∷ faults) ≡ None → (fault ≡ None) × (first_of faults ≡ None)
first_of-None None faults e = (refl, e)
first_of-None (Some fault) faults e = cc

-- neither of two places is there
or_else-None : (first second : Option ℕ) → or_else first second ≡ None → (first ≡ None) × (second ≡ None)
or_else-None None second e = (refl, e)
or_else-None (Some n) second e = cc

-- a test that finds no class fails at each
at_class-at : (document : MetamodelDocument) (test : ℕ → ClassDocument → Bool) (k : ℕ) (c : ClassDocument)
    → at_class document test ≡ None → slice_get document.classes k ≡ Some c → test k c ≡ false
at_class-at document test k c none at =
    let here : 0 + k ≡ k = omega arith in
    subst (λ n. test n c ≡ false) here
    (first_place-at test 0 document.classes k c (option_map-None (λ n. length document.enums + n) (first_place test 0 document.classes) none) at)

-- a document with no first fault has none
pub IsFaultless-first_fault : (document : MetamodelDocument) → first_fault document ≡ None → IsFaultless document
unfolding first_fault
IsFaultless-first_fault document none =
    let f1 = option_map duplicate_name (duplicate_place document) in
    let t2 = λ (n : ℕ) (c : ClassDocument). has_unknown_type document c in
    let t3 = λ (n : ℕ) (c : ClassDocument). is_above_itself document (record { 0 = n }) in
    let t4 = λ (n : ℕ) (c : ClassDocument). list_any (lacks_opposite document c) c.references in
    let t5 = λ (n : ℕ) (c : ClassDocument). list_any (is_bad_containment document) c.references in
    let t6 = λ (n : ℕ) (c : ClassDocument). has_clash document (record { 0 = n }) in
    let f2 = option_map unknown_type (at_class document t2) in
    let f3 = option_map super_cycle (at_class document t3) in
    let f4 = option_map bad_opposite (at_class document t4) in
    let f5 = option_map bad_containment (at_class document t5) in
    let f6 = option_map feature_clash (at_class document t6) in
    let f7 = option_map too_many (too_great document) in
    let r1 = first_of-None f1 (f2 ∷ f3 ∷ f4 ∷ f5 ∷ f6 ∷ f7 ∷ []) none in
    let r2 = first_of-None f2 (f3 ∷ f4 ∷ f5 ∷ f6 ∷ f7 ∷ []) r1.1 in
    let r3 = first_of-None f3 (f4 ∷ f5 ∷ f6 ∷ f7 ∷ []) r2.1 in
    let r4 = first_of-None f4 (f5 ∷ f6 ∷ f7 ∷ []) r3.1 in
    let r5 = first_of-None f5 (f6 ∷ f7 ∷ []) r4.1 in
    let r6 = first_of-None f6 (f7 ∷ []) r5.1 in
    let places = or_else-None (first_place (is_bad_enum document) 0 document.enums) (first_place (is_bad_class document) (length document.enums) document.classes)
    (option_map-None duplicate_name (duplicate_place document) r1.0) in
    record {
      names = λ k c at. first_place-at (is_bad_class document) (length document.enums) document.classes k c places.1 at;
      opposites = λ k c at. at_class-at document t4 k c (option_map-None bad_opposite (at_class document t4) r4.0) at;
      containments = λ k c at. at_class-at document t5 k c (option_map-None bad_containment (at_class document t5) r5.0) at;
      features = λ k c at. at_class-at document t6 k c (option_map-None feature_clash (at_class document t6) r6.0) at;
    }
