-- The reference that answers another in a document without a fault.
use Rattle.std.proofs.Common.{◌≡◌, ℕ, ◌+◌, List, map, length, take, refl, sym, ap, subst, ◌∙◌, arith, true, false}
use Rattle.std.specs.Prelude.{◌≤◌, ◌&&◌, ◌==◌, not, find, position, slice_get, count_by, is_some, Option, Some, None, option_map, option_and_then, unwrap_or}
use Rattle.std.specs.List.{list_any}
use Rattle.std.specs.Option.{option_map_or}
use Rattle.std.proofs.lemmas.Bool.{or_parts, and_parts, not-false, eqb-true}
use Rattle.std.proofs.lemmas.List.{length-map}
use Rattle.std.proofs.lemmas.Option.{same_Some}
use Rattle.vt_base.specs.declared.numbers.ClassId.{ClassId}
use Rattle.vt_base.specs.declared.numbers.RefId.{RefId}
use Rattle.vt_meta.specs.Declarations.{is_kind_name, item_names, declared_names, class_place, class_at, class_number, declared_there, opposite_in, answers}
use Rattle.vt_facts.specs.Names.{is_name, is_distinct}
use Rattle.vt_meta.specs.Built.{Declared, references_from, reference_number, ref_info}
use Rattle.vt_meta.specs.Faults.{is_taken, lacks_opposite}
use Rattle.vt_meta.specs.declared.document.ClassDocument.{ClassDocument}
use Rattle.vt_meta.specs.declared.document.ReferenceDocument.{ReferenceDocument}
use Rattle.vt_meta.specs.declared.document.MetamodelDocument.{MetamodelDocument}
use Rattle.vt_facts.proofs.MemberLemmas.{Contains-find}
use Rattle.vt_facts.proofs.CountLemmas.{count_by-map}
use Rattle.vt_facts.proofs.PositionLemmas.{IsAt-position}
use Rattle.vt_model.proofs.Valid.Names.{is_name-itself}
use Rattle.vt_model.proofs.SearchLemmas.{position-find, position-first, list_any-at, list_any-take_map, list_any-take_append, find-only}
use Rattle.vt_meta.proofs.Sound.Flat.{IsOf, IsOf-references_from, is_named, times-references, count_by-references_from}
use Rattle.vt_meta.proofs.Sound.Faultless.{IsFaultless}

-- ---- what the document says

-- the target of a reference is there, and declares a reference of this name, which answers
pub record IsAnswered (document : MetamodelDocument) (c : ClassDocument) (r : ReferenceDocument) (name : List ℕ) : Type 0 where
  pub target : ClassDocument
  pub at : class_at document r.target ≡ Some target
  pub other : ReferenceDocument
  pub found : find (λ s. is_name s.name name) target.references ≡ Some other
  pub answered : answers c r other ≡ true

-- a reference that doesn't lack its opposite is answered
pub IsAnswered-lacks_opposite : (document : MetamodelDocument) (c : ClassDocument) (r : ReferenceDocument) (name : List ℕ)
    → r.opposite ≡ Some name → lacks_opposite document c r ≡ false → IsAnswered document c r name
IsAnswered-lacks_opposite document c r name named fine =
    by (class_at document r.target) refl
    (subst (λ o. (is_some o && not (option_map_or (answers c r) (option_and_then (declared_there document r) o) false)) ≡ false) named fine)
  where
    in_target : (target : ClassDocument) → class_at document r.target ≡ Some target → (o : Option ReferenceDocument) → find (λ s. is_name s.name name) target.references ≡ o
        → not (option_map_or (answers c r) o false) ≡ false → IsAnswered document c r name
    in_target target at None found e = cc
    in_target target at (Some other) found e = record { target = target; at = at; other = other; found = found; answered = not-false (answers c r other) e }

    by : (t : Option ClassDocument) → class_at document r.target ≡ t
        → not (option_map_or (answers c r) (option_and_then (λ target. find (λ s. is_name s.name name) target.references) t) false) ≡ false → IsAnswered document c r name
    by None at e = cc
    by (Some target) at e = in_target target at (find (λ s. is_name s.name name) target.references) refl e

-- a reference of the metamodel names another as its opposite, which answers it
pub record IsPaired (document : MetamodelDocument) (d : Declared ReferenceDocument) (s : RefId) : Type 0 where
  -- the class that declares the first
  pub of : IsOf 0 document.classes d
  -- the other, by its number, and the class that declares it
  pub other : Declared ReferenceDocument
  pub there : slice_get (references_from 0 document.classes) s.0 ≡ Some other
  pub of_other : IsOf 0 document.classes other
  -- which is the target of the first, by number and by name
  pub target : class_number document d.feature.target ≡ other.class
  pub target_name : is_name of_other.class.name d.feature.target ≡ true
  -- the other answers, and is the one that the document finds
  pub answered : answers of.class d.feature other.feature ≡ true
  pub opposite : opposite_in document d.feature ≡ Some other.feature

-- a number of a reference is that of its place
place_of_number : (o : Option ℕ) (s : RefId) → option_map (λ n. record { 0 = n }) o ≡ Some s → o ≡ Some s.0
place_of_number None s e = cc
place_of_number (Some n) s e = let is : record { 0 = n } ≡ s = same_Some (record { 0 = n }) s e in ap (λ (r : RefId). Some r.0) is

module _ (document : MetamodelDocument) (fine : IsFaultless document) where
  -- ---- names

  -- a class's features have different names
  pub declared-distinct : (k : ℕ) (c : ClassDocument) → slice_get document.classes k ≡ Some c → is_distinct (declared_names c) ≡ true
  declared-distinct k c at =
      not-false (is_distinct (declared_names c)) (or_parts (is_taken document (length document.enums + k) c.name) (not (is_distinct (declared_names c))) (fine.names k c at)).1

  -- a class's name finds the class
  pub class_place-itself : (k : ℕ) (c : ClassDocument) → slice_get document.classes k ≡ Some c → class_place document c.name ≡ Some k
  class_place-itself k c at =
      let free = (or_parts (is_taken document (length document.enums + k) c.name) (not (is_distinct (declared_names c))) (fine.names k c at)).0 in
      let other = (or_parts (is_kind_name c.name) (list_any (λ other. is_name other c.name) (take (length document.enums + k) (item_names document))) free).1 in
      let long : length document.enums ≡ length (map (λ e. e.name) document.enums) = sym (length-map document.enums (λ e. e.name)) in
      let none = list_any-take_append (λ n. is_name n c.name) (map (λ e. e.name) document.enums) (map (λ d. d.name) document.classes) k
      (subst (λ m. list_any (λ other. is_name other c.name) (take (m + k) (item_names document)) ≡ false) long other) in
      position-first (λ d. is_name d.name c.name) document.classes k c at (is_name-itself c.name)
      (sym (list_any-take_map (λ n. is_name n c.name) (λ (d : ClassDocument). d.name) k document.classes) ∙ none)

  -- a name that finds a class gives its number
  pub class_number-place : (name : List ℕ) (k : ℕ) → class_place document name ≡ Some k → class_number document name ≡ record { 0 = k }
  class_number-place name k e = ap (λ o. record { 0 = unwrap_or o 0 }) e

  -- a class declares one reference of a name at most
  pub references-once : (k : ℕ) (name : List ℕ) → count_by (is_named k name) (references_from 0 document.classes) ≤ 1
  references-once k name = count_by-references_from 0 k name document.classes declared-distinct

  -- ---- the pair of a reference and its opposite

  -- the first of this name that the target declares is the one that is found among all
  IsPaired-named : (i : ℕ) (d : Declared ReferenceDocument) (s : RefId) (name : List ℕ) → slice_get (references_from 0 document.classes) i ≡ Some d
      → d.feature.opposite ≡ Some name → reference_number document (class_number document d.feature.target) name ≡ Some s → IsPaired document d s
  IsPaired-named i d s name at named e =
      let of = IsOf-references_from 0 document.classes i d at in
      let fits = list_any-at (lacks_opposite document of.class) of.class.references of.at d.feature of.declares (fine.opposites of.place of.class of.stands) in
      let answer = IsAnswered-lacks_opposite document of.class d.feature name named fits in
      let target = position-find (λ c. is_name c.name d.feature.target) document.classes answer.target answer.at in
      let number : class_number document d.feature.target ≡ record { 0 = target.0 } = class_number-place d.feature.target target.0 target.1 in
      let k = (class_number document d.feature.target).0 in
      let found = IsAt-position (is_named k name) (references_from 0 document.classes) s.0
      (place_of_number (position (is_named k name) (references_from 0 document.classes)) s e) in
      let other = found.item in
      let passes = and_parts (other.class.0 == k) (is_name other.feature.name name) found.passes in
      let of_other = IsOf-references_from 0 document.classes s.0 other found.there in
      let k_is : k ≡ target.0 = ap (λ (c : ClassId). c.0) number in
      let class_is : other.class.0 ≡ k = eqb-true other.class.0 k passes.0 in
      let place_is : of_other.place ≡ target.0 = omega (arith, of_other.number, class_is, k_is) in
      let same : of_other.class ≡ answer.target = same_Some of_other.class answer.target (sym of_other.stands ∙ ap (slice_get document.classes) place_is ∙ target.2) in
      let declares : slice_get answer.target.references of_other.at ≡ Some other.feature = subst (λ (c : ClassDocument). slice_get c.references of_other.at ≡ Some other.feature) same of_other.declares in
      let once : count_by (λ r. is_name r.name name) answer.target.references ≤ 1 =
      subst (λ n. n ≤ 1) (count_by-map (λ n. is_name n name) (λ (r : ReferenceDocument). r.name) answer.target.references)
      (times-references answer.target name (declared-distinct target.0 answer.target target.2)) in
      let feature : other.feature ≡ answer.other = find-only (λ r. is_name r.name name) answer.target.references of_other.at other.feature answer.other once declares passes.1 answer.found in
      record {
        of = of;
        other = other;
        there = found.there;
        of_other = of_other;
        target = ap (λ n. record { 0 = n }) (sym class_is);
        target_name = subst (λ (c : ClassDocument). is_name c.name d.feature.target ≡ true) (sym same) (passes_find answer.target answer.at);
        answered = subst (λ r. answers of.class d.feature r ≡ true) (sym feature) answer.answered;
        opposite =
            ap (option_and_then (declared_there document d.feature)) named
            ∙ ap (option_and_then (λ (target : ClassDocument). find (λ s. is_name s.name name) target.references)) answer.at
            ∙ answer.found ∙ ap Some (sym feature);
      }
    where
      passes_find : (target : ClassDocument) → class_at document d.feature.target ≡ Some target → is_name target.name d.feature.target ≡ true
      passes_find target at = (Contains-find (λ c. is_name c.name d.feature.target) document.classes target at).1

  -- so it is where a reference has an opposite
  pub IsPaired-opposite : (i : ℕ) (d : Declared ReferenceDocument) (s : RefId) → slice_get (references_from 0 document.classes) i ≡ Some d
      → (ref_info document d).opposite ≡ Some s → IsPaired document d s
  IsPaired-opposite i d s at e = by d.feature.opposite refl e
    where
      by : (o : Option (List ℕ)) → d.feature.opposite ≡ o → option_and_then (reference_number document (class_number document d.feature.target)) o ≡ Some s → IsPaired document d s
      by None named e = cc
      by (Some name) named e = IsPaired-named i d s name at named e
