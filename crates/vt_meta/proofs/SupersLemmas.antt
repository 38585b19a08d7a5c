-- The supertypes of a document's classes, by places and by numbers.
use Rattle.std.proofs.Common.{◌≡◌, ℕ, List, length, map, get_or, refl, sym, ap, subst, ◌∙◌, true, arith}
use Rattle.std.specs.Prelude.{◌<◌, ◌↔◌, All, Option, Some, None, unwrap_or}
use Rattle.std.specs.List.{list_any}
use Rattle.std.proofs.lemmas.List.{length-map}
use Rattle.std.proofs.lemmas.List.Elements.{All-map}
use Rattle.std.proofs.lemmas.List.Folds.{Any-from_list_any, list_any_at}
use Rattle.vt_base.specs.declared.numbers.ClassId.{ClassId}
use Rattle.vt_model.specs.Metamodel.{supers_of, is_within}
use Rattle.vt_meta.specs.Declarations.{class_place, supers_in}
use Rattle.vt_facts.specs.Names.{is_name}
use Rattle.vt_meta.specs.Faults.{is_above_itself, IsOnCycle}
use Rattle.vt_meta.specs.Inside.Above.{supers_places}
use Rattle.vt_model.specs.Above.{class_id, ids, supers_at, is_above_any, AreThere}
use Rattle.vt_facts.proofs.MapLemmas.{map-map, list_any-map}
use Rattle.vt_meta.specs.declared.document.ClassDocument.{ClassDocument}
use Rattle.vt_meta.specs.declared.document.MetamodelDocument.{MetamodelDocument}
use Rattle.vt_facts.proofs.PositionLemmas.{IsAt, IsAt-position}
use Rattle.vt_model.proofs.AboveLemmas.{supers_of-ids, there-ids, below_supers_at}
use Rattle.vt_model.proofs.IsaLemmas.{is_within_exact}

-- what stands right above a place is a place
pub supers_below : (supers : List (List ℕ)) → AreThere supers → (c : ℕ) → All (λ e. e < length supers) (supers_at supers c)
supers_below supers there c = below_supers_at supers there c

module _ (document : MetamodelDocument) where
  abbrev place : List ℕ → ℕ
  place s = unwrap_or (class_place document s) 0

  abbrev places : ClassDocument → List ℕ
  places c = map place c.supers

  pub length-supers_places : length (supers_places document) ≡ length document.classes
  length-supers_places = length-map document.classes places

  pub place_below : 0 < length document.classes → (s : List ℕ) → place s < length document.classes
  place_below some s = by (class_place document s) refl
    where
      by : (r : Option ℕ) → class_place document s ≡ r → unwrap_or r 0 < length document.classes
      by None e = some
      by (Some n) e = IsAt.in_range (IsAt-position (λ (c : ClassDocument). is_name c.name s) document.classes n e)

  pub there_supers : AreThere (supers_places document)
  there_supers = subst (λ n. All (All (λ e. e < n)) (supers_places document)) (sym length-supers_places)
      (All-map (All (λ e. e < length document.classes)) places document.classes
      (λ k d below. All-map (λ e. e < length document.classes) place (get_or document.classes k d).supers (λ j s _. place_below (omega arith) (get_or (get_or document.classes k d).supers j s))))

  pub ids_supers_places : ids (supers_places document) ≡ supers_in document
  ids_supers_places =
      map-map (map class_id) places document.classes
      ∙ (λ i. map (λ (c : ClassDocument). map-map class_id place c.supers i) document.classes)

  pub above_itself : (supers : List (List ℕ)) (c : ℕ) → supers ≡ supers_places document → is_above_any supers (supers_at supers c) c ≡ is_above_itself document (class_id c)
  above_itself supers c is =
      ap (λ s. is_above_any s (supers_at s c) c) is
      ∙ sym (list_any-map (λ s. is_within (ids (supers_places document)) (length (supers_places document)) s (class_id c)) class_id (supers_at (supers_places document) c))
      ∙ ap (list_any (λ s. is_within (ids (supers_places document)) (length (supers_places document)) s (class_id c))) (sym (supers_of-ids (supers_places document) c))
      ∙ (λ i. list_any (λ s. is_within (ids_supers_places i) (length-supers_places i) s (class_id c)) (supers_of (ids_supers_places i) (class_id c)))

  pub length_supers : (supers : List (List ℕ)) → supers ≡ supers_places document → length supers ≡ length document.classes
  length_supers supers is = ap length is ∙ length-supers_places

  -- ---- classes that are their own supertypes

  there_supers_in : All (All (λ (e : ClassId). e.0 < length document.classes)) (supers_in document)
  there_supers_in = subst (λ n. All (All (λ (e : ClassId). e.0 < n)) (supers_in document)) length-supers_places
      (subst (All (All (λ (e : ClassId). e.0 < length (supers_places document)))) ids_supers_places (there-ids (supers_places document) there_supers))

  -- a class is above itself exactly where a path of supertypes leads from it back to it
  pub above_itself-IsOnCycle : (c : ClassId) → (is_above_itself document c ≡ true) ↔ IsOnCycle document c
  above_itself-IsOnCycle c = (to_path, from_path)
    where
      to_path : is_above_itself document c ≡ true → IsOnCycle document c
      to_path is =
          let at = Any-from_list_any (λ s. is_within (supers_in document) (length document.classes) s c) (supers_of (supers_in document) c) is in
          let more = (is_within_exact (supers_in document) (length document.classes) there_supers_in at.1 c).0 at.4 in
          record { above = at.1; first = (at.0, at.2, at.3); path = more.0; back = more.1 }

      from_path : IsOnCycle document c → is_above_itself document c ≡ true
      from_path o =
          let first = o.first in
          let is : is_within (supers_in document) (length document.classes) o.above c ≡ true = (is_within_exact (supers_in document) (length document.classes) there_supers_in o.above c).1 (o.path, o.back) in
          list_any_at (λ s. is_within (supers_in document) (length document.classes) s c) (supers_of (supers_in document) c) first.0 o.above first.1
          (subst (λ x. is_within (supers_in document) (length document.classes) x c ≡ true) (sym first.2) is)
