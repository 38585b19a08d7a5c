-- The parts of the metamodel that a document makes.
use Rattle.std.proofs.Common.{◌≡◌, ℕ, ◌+◌, List, [], ◌∷◌, length, map, refl, sym, ap, subst, ◌∙◌, cond, Bool, true, false, arith, length-append}
use Rattle.std.specs.Prelude.{◌<◌, ◌≤◌, All, Option, Some, None, option_and_then, option_map, nat_lt, sum_by, find}
use Rattle.std.proofs.lemmas.Bool.{ltb-false}
use Rattle.std.proofs.lemmas.List.{length-map}
use Rattle.std.proofs.lemmas.List.Elements.{All-nil, All-cons, All-append, All-map, All-weaker}
use Rattle.std.proofs.lemmas.List.Sums.{sum_by-cons}
use Rattle.vt_base.specs.declared.numbers.ClassId.{ClassId}
use Rattle.vt_base.specs.declared.numbers.RefId.{RefId}
use Rattle.vt_meta.specs.Built.{Declared, declared_by, metamodel_of, attributes_from, references_from, reference_number, enum_info, attr_info, ref_info}
use Rattle.vt_meta.specs.Faults.{above, or_else, feature_count, too_great}
use Rattle.vt_meta.specs.Inside.Above.{supers_places}
use Rattle.vt_model.specs.Metamodel.{as_metamodel}
use Rattle.vt_model.specs.Sound.{IsSound}
use Rattle.vt_meta.specs.Inside.Building.{declaration, declarations_from, is_declaration, number_in}
use Rattle.vt_model.specs.declared.metamodel.Lists.{Lists}
use Rattle.vt_model.specs.declared.metamodel.EnumInfo.{EnumInfo}
use Rattle.vt_meta.specs.declared.building.Declaration.{Declaration}
use Rattle.vt_meta.specs.declared.document.EnumDocument.{EnumDocument}
use Rattle.vt_meta.specs.declared.document.ClassDocument.{ClassDocument}
use Rattle.vt_meta.specs.declared.document.AttributeDocument.{AttributeDocument}
use Rattle.vt_meta.specs.declared.document.ReferenceDocument.{ReferenceDocument}
use Rattle.vt_meta.specs.declared.document.MetamodelDocument.{MetamodelDocument}
use Rattle.vt_facts.proofs.PositionLemmas.{position-map}
use Rattle.vt_meta.proofs.SupersLemmas.{length-supers_places, there_supers}
use Rattle.vt_facts.proofs.OptionLemmas.{option_map-None}

-- ---- opposites

number_in-declarations : (document : MetamodelDocument) (class : ClassId) (name : List ℕ) → number_in (declarations_from 0 document.classes) class name ≡ reference_number document class name
number_in-declarations document class name = ap (option_map {U = RefId} (λ n. record { 0 = n })) (position-map declaration (is_declaration class name) (references_from 0 document.classes))

pub opposite_is : (document : MetamodelDocument) (declarations : List Declaration) (class : ClassId) (opposite : Option (List ℕ)) → declarations ≡ declarations_from 0 document.classes
    → option_and_then (number_in declarations class) opposite ≡ option_and_then (reference_number document class) opposite
opposite_is document declarations class None is = refl
opposite_is document declarations class (Some name) is = ap (λ d. number_in d class name) is ∙ number_in-declarations document class name

-- ---- limits

-- each feature of the document is one of the metamodel
features-length : (n : ℕ) (cs : List ClassDocument) → length (attributes_from n cs) + length (references_from n cs) ≡ sum_by feature_count cs
features-length n [] = refl
features-length n (c ∷ cs) =
    let rest : length (attributes_from (n + 1) cs) + length (references_from (n + 1) cs) ≡ sum_by feature_count cs = features-length (n + 1) cs in
    let whole : sum_by feature_count (c ∷ cs) ≡ length c.attributes + length c.references + sum_by feature_count cs = sum_by-cons feature_count c cs in
    simp (length-append, length-map) (omega arith)

or_else-None : (a b : Option ℕ) → or_else a b ≡ None → (a ≡ None) × (b ≡ None)
or_else-None None b e = (refl, e)
or_else-None (Some n) b e = cc

above-None : (limit n : ℕ) → above limit n ≡ None → n ≤ limit
above-None limit n e = by (nat_lt limit n) refl e
  where
    by : (b : Bool) → nat_lt limit n ≡ b → cond b (Some n) None ≡ None → n ≤ limit
    by true is e = cc
    by false is e = ltb-false limit n is

find-None : {X : Type 0} (p : X → Bool) (xs : List X) → find p xs ≡ None → All (λ x. p x ≡ false) xs
find-None p [] e = All-nil (λ x. p x ≡ false)
find-None p (x ∷ xs) e = by (p x) refl (λ later. find-None p xs later) e
  where
    by : (b : Bool) → p x ≡ b → (find p xs ≡ None → All (λ x. p x ≡ false) xs) → cond b (Some x) (find p xs) ≡ None → All (λ x. p x ≡ false) (x ∷ xs)
    by true is rest e = cc
    by false is rest e = All-cons (λ x. p x ≡ false) x xs is (rest e)

-- a document with no count that is too great
module _ (document : MetamodelDocument) (e : too_great document ≡ None) where
  abbrev long : EnumDocument → Bool
  long = λ e. nat_lt 1024 (length e.literals)

  first : (above 1024 (length document.classes) ≡ None) × (or_else (above 1024 (length document.enums)) (or_else (option_map (λ e. length e.literals) (find long document.enums)) (above 4096 (sum_by feature_count document.classes))) ≡ None)
  first = or_else-None _ _ e

  second : (above 1024 (length document.enums) ≡ None) × (or_else (option_map (λ e. length e.literals) (find long document.enums)) (above 4096 (sum_by feature_count document.classes)) ≡ None)
  second = or_else-None _ _ first.1

  third : (option_map (λ e. length e.literals) (find long document.enums) ≡ None) × (above 4096 (sum_by feature_count document.classes) ≡ None)
  third = or_else-None _ _ second.1

  pub few_classes : length document.classes ≤ 1024
  few_classes = above-None 1024 (length document.classes) first.0

  pub few_enums : length document.enums ≤ 1024
  few_enums = above-None 1024 (length document.enums) second.0

  few_features : sum_by feature_count document.classes ≤ 4096
  few_features = above-None 4096 (sum_by feature_count document.classes) third.1

  pub few_infos : length (map (attr_info document) (attributes_from 0 document.classes)) + length (map (ref_info document) (references_from 0 document.classes)) ≤ 4096
  few_infos = let whole = features-length 0 document.classes in let few = few_features in simp length-map (omega arith)

  pub few_declarations : length (declarations_from 0 document.classes) ≤ 4096
  few_declarations = let whole = features-length 0 document.classes in let few = few_features in simp length-map (omega arith)

  pub few_literals : All (λ (i : EnumInfo). length i.literals ≤ 1024) (map enum_info document.enums)
  few_literals = All-map (λ (i : EnumInfo). length i.literals ≤ 1024) enum_info document.enums
      (All-weaker (λ e. long e ≡ false) (λ e. length e.literals ≤ 1024) (λ e is. ltb-false 1024 (length e.literals) is) document.enums
      (find-None long document.enums (option_map-None (λ (e : EnumDocument). length e.literals) (find long document.enums) third.0)))

  pub few_supers : (supers : List (List ℕ)) → supers ≡ supers_places document → All (All (λ place. place < 1024)) supers
  few_supers supers is =
      let few : length (supers_places document) ≤ 1024 = omega (arith, few_classes, length-supers_places document) in
      subst (All (All (λ place. place < 1024))) (sym is)
      (All-weaker (All (λ place. place < length (supers_places document))) (All (λ place. place < 1024))
      (λ l all. All-weaker (λ place. place < length (supers_places document)) (λ place. place < 1024) (λ place below. omega arith) l all)
      (supers_places document) (there_supers document))

-- ---- classes that are there

pub attributes_below : (n : ℕ) (cs : List ClassDocument) → All (λ (d : Declared AttributeDocument). d.class.0 < n + length cs) (attributes_from n cs)
attributes_below n [] = All-nil (λ (d : Declared AttributeDocument). d.class.0 < n + 0)
attributes_below n (c ∷ cs) =
    let rest : All (λ (d : Declared AttributeDocument). d.class.0 < n + 1 + length cs) (attributes_from (n + 1) cs) = attributes_below (n + 1) cs in
    All-append (λ (d : Declared AttributeDocument). d.class.0 < n + length (c ∷ cs)) (declared_by n c.attributes) (attributes_from (n + 1) cs)
    (All-map (λ (d : Declared AttributeDocument). d.class.0 < n + length (c ∷ cs)) (λ (f : AttributeDocument). record { class = record { 0 = n }; feature = f }) c.attributes (λ k f _. omega arith))
    (All-weaker (λ (d : Declared AttributeDocument). d.class.0 < n + 1 + length cs) (λ (d : Declared AttributeDocument). d.class.0 < n + length (c ∷ cs)) (λ d below. omega arith) (attributes_from (n + 1) cs) rest)

pub references_below : (n : ℕ) (cs : List ClassDocument) → All (λ (d : Declared ReferenceDocument). d.class.0 < n + length cs) (references_from n cs)
references_below n [] = All-nil (λ (d : Declared ReferenceDocument). d.class.0 < n + 0)
references_below n (c ∷ cs) =
    let rest : All (λ (d : Declared ReferenceDocument). d.class.0 < n + 1 + length cs) (references_from (n + 1) cs) = references_below (n + 1) cs in
    All-append (λ (d : Declared ReferenceDocument). d.class.0 < n + length (c ∷ cs)) (declared_by n c.references) (references_from (n + 1) cs)
    (All-map (λ (d : Declared ReferenceDocument). d.class.0 < n + length (c ∷ cs)) (λ (f : ReferenceDocument). record { class = record { 0 = n }; feature = f }) c.references (λ k f _. omega arith))
    (All-weaker (λ (d : Declared ReferenceDocument). d.class.0 < n + 1 + length cs) (λ (d : Declared ReferenceDocument). d.class.0 < n + length (c ∷ cs)) (λ d below. omega arith) (references_from (n + 1) cs) rest)

-- ---- the lists

pub sound_lists : (lists : Lists) (document : MetamodelDocument) → as_metamodel lists ≡ metamodel_of document → IsSound (metamodel_of document) → IsSound (as_metamodel lists)
sound_lists lists document same sound = subst IsSound (sym same) sound
