-- Opposites of a metamodel that is read answer each other.
use Rattle.std.proofs.Common.{◌≡◌, ℕ, List, refl, sym, ap, subst, ◌∙◌, arith, Bool, true, false}
use Rattle.std.specs.Prelude.{◌≢◌, ◌&&◌, ◌||◌, ◌==◌, not, slice_get, Option, Some, None, option_map, option_and_then}
use Rattle.std.specs.Option.{option_map_or}
use Rattle.std.proofs.lemmas.Bool.{or_parts, and_parts, and_from, not-true, both_ways, eq-eqb}
use Rattle.std.proofs.lemmas.Option.{same_Some, slice_get-map}
use Rattle.vt_base.specs.declared.numbers.RefId.{RefId}
use Rattle.vt_meta.specs.Declarations.{names_opposite, class_number, opposite_in}
use Rattle.vt_facts.specs.Names.{is_name}
use Rattle.vt_meta.specs.Built.{Declared, references_from, reference_number, ref_info, metamodel_of}
use Rattle.vt_meta.specs.Faults.{is_bad_containment}
use Rattle.vt_model.specs.Sound.{Answers}
use Rattle.vt_meta.specs.declared.document.ClassDocument.{ClassDocument}
use Rattle.vt_meta.specs.declared.document.ReferenceDocument.{ReferenceDocument}
use Rattle.vt_meta.specs.declared.document.MetamodelDocument.{MetamodelDocument}
use Rattle.vt_model.proofs.Valid.Names.{same_name, is_name-itself}
use Rattle.vt_model.proofs.SearchLemmas.{list_any-at, position-only}
use Rattle.vt_meta.proofs.Sound.Flat.{is_named}
use Rattle.vt_meta.proofs.Sound.Faultless.{IsFaultless}
use Rattle.vt_meta.proofs.Sound.Answered.{IsPaired, class_place-itself, class_number-place, references-once}

-- an opposite that is named is there
opposite-named : (name : List ℕ) (o : Option (List ℕ)) → names_opposite name o ≡ true → o ≡ Some name
opposite-named name None e = cc
opposite-named name (Some other) e = ap Some (same_name other name e)

module _ (document : MetamodelDocument) (fine : IsFaultless document) (i : ℕ) (d : Declared ReferenceDocument) (s : RefId)
    (at : slice_get (references_from 0 document.classes) i ≡ Some d) (pair : IsPaired document d s) where
  -- ---- what it is to answer

  -- the other leads to the reference's class
  abbrev to : Bool
  to = is_name pair.other.feature.target pair.of.class.name

  -- it names the reference
  abbrev names : Bool
  names = names_opposite d.feature.name pair.other.feature.opposite

  -- it is the reference, by class and name
  abbrev itself : Bool
  itself = is_name d.feature.target pair.of.class.name && is_name pair.other.feature.name d.feature.name

  -- the first holds
  leads_back : to ≡ true
  leads_back = (and_parts to names (and_parts (to && names) (not itself) pair.answered).0).0

  -- so does the second: the name stands there
  names_it : pair.other.feature.opposite ≡ Some d.feature.name
  names_it = opposite-named d.feature.name pair.other.feature.opposite (and_parts to names (and_parts (to && names) (not itself) pair.answered).0).1

  -- the third doesn't
  is_another : itself ≡ false
  is_another = not-true itself (and_parts (to && names) (not itself) pair.answered).1

  -- ---- the same of the metamodel

  -- the reference's class has the number of its place
  number_is : d.class.0 ≡ pair.of.place
  number_is = omega (arith, pair.of.number)

  -- it leads to the class's number
  target-back : class_number document pair.other.feature.target ≡ d.class
  target-back =
      ap (class_number document) (same_name pair.other.feature.target pair.of.class.name leads_back)
      ∙ class_number-place document fine pair.of.class.name pair.of.place (class_place-itself document fine pair.of.place pair.of.class pair.of.stands)
      ∙ ap (λ n. record { 0 = n }) (sym number_is)

  -- it is another reference
  differs : s ≢ record { 0 = i }
  differs same =
      let places : s.0 ≡ i = ap (λ (r : RefId). r.0) same in
      let is : pair.other ≡ d = same_Some pair.other d (sym pair.there ∙ ap (slice_get (references_from 0 document.classes)) places ∙ at) in
      let numbers : pair.other.class.0 ≡ d.class.0 = ap (λ (x : Declared ReferenceDocument). x.class.0) is in
      let here : pair.of_other.place ≡ pair.of.place = omega (arith, pair.of_other.number, pair.of.number, numbers) in
      let class_is : pair.of_other.class ≡ pair.of.class = same_Some pair.of_other.class pair.of.class (sym pair.of_other.stands ∙ ap (slice_get document.classes) here ∙ pair.of.stands) in
      let target_is : d.feature.target ≡ pair.of.class.name = sym (same_name pair.of_other.class.name d.feature.target pair.target_name) ∙ ap (λ (c : ClassDocument). c.name) class_is in
      let first : is_name d.feature.target pair.of.class.name ≡ true = subst (λ n. is_name n pair.of.class.name ≡ true) (sym target_is) (is_name-itself pair.of.class.name) in
      let second : is_name pair.other.feature.name d.feature.name ≡ true = subst (λ (x : Declared ReferenceDocument). is_name x.feature.name d.feature.name ≡ true) (sym is) (is_name-itself d.feature.name) in
      both_ways itself is_another (and_from (is_name d.feature.target pair.of.class.name) (is_name pair.other.feature.name d.feature.name) first second)

  -- its opposite is the first
  back : (ref_info document pair.other).opposite ≡ Some (record { 0 = i })
  back =
      ap (λ c. option_and_then (reference_number document c) pair.other.feature.opposite) target-back
      ∙ ap (option_and_then (reference_number document d.class)) names_it
      ∙ ap (option_map (λ n. record { 0 = n })) (position-only (is_named d.class.0 d.feature.name) (references_from 0 document.classes) i d
      (references-once document fine d.class.0 d.feature.name) at
      (and_from (d.class.0 == d.class.0) (is_name d.feature.name d.feature.name) (eq-eqb d.class.0 d.class.0 refl) (is_name-itself d.feature.name)))

  -- it contains nothing and is single, where the first contains
  contained : d.feature.containment ≡ true → (pair.other.feature.containment ≡ false) × (pair.other.feature.many ≡ false)
  contained contains =
      let fits = list_any-at (is_bad_containment document) pair.of.class.references pair.of.at d.feature pair.of.declares (fine.containments pair.of.place pair.of.class pair.of.stands) in
      let bad : (true && option_map_or (λ s. s.containment || s.many) (opposite_in document d.feature) false) ≡ false =
      subst (λ b. (b && option_map_or (λ (s : ReferenceDocument). s.containment || s.many) (opposite_in document d.feature) false) ≡ false) contains fits in
      or_parts pair.other.feature.containment pair.other.feature.many
      (subst (λ o. option_map_or (λ (s : ReferenceDocument). s.containment || s.many) o false ≡ false) pair.opposite bad)

  -- so it answers
  pub Answers-paired : Answers (metamodel_of document) (record { 0 = i }) (ref_info document d) s
  Answers-paired = record {
    other = ref_info document pair.other;
    declared = slice_get-map (ref_info document) (references_from 0 document.classes) s.0 ∙ ap (option_map (ref_info document)) pair.there;
    differs = differs;
    back = back;
    from = sym pair.target;
    to = target-back;
    contained = contained;
  }
