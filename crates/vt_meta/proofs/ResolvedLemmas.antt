-- What the names of a document stand for, found by their places.
use Rattle.std.proofs.Common.{◌≡◌, ℕ, List, refl, ap, ◌∙◌}
use Rattle.std.specs.Prelude.{find, position, slice_get, Option, Some, None, option_and_then}
use Rattle.vt_meta.specs.Declarations.{class_place, declared_there}
use Rattle.vt_facts.specs.Names.{is_name}
use Rattle.vt_meta.specs.Inside.Places.{declared_at}
use Rattle.vt_meta.specs.declared.document.ClassDocument.{ClassDocument}
use Rattle.vt_meta.specs.declared.document.ReferenceDocument.{ReferenceDocument}
use Rattle.vt_meta.specs.declared.document.MetamodelDocument.{MetamodelDocument}
use Rattle.vt_facts.proofs.PositionLemmas.{find_position}

module _ (document : MetamodelDocument) where
  abbrev place_at : ℕ → List ℕ → Option ℕ
  place_at class name = option_and_then (λ c. position (λ r. is_name r.name name) c.references) (slice_get document.classes class)

  at_place : (class : ℕ) (name : List ℕ)
      → declared_at document class name ≡ option_and_then (λ i. option_and_then (λ c. slice_get c.references i) (slice_get document.classes class)) (place_at class name)
  at_place class name = by (slice_get document.classes class)
    where
      by : (r : Option ClassDocument)
          → option_and_then (λ c. find (λ s. is_name s.name name) c.references) r
          ≡ option_and_then (λ i. option_and_then (λ c. slice_get c.references i) r) (option_and_then (λ c. position (λ s. is_name s.name name) c.references) r)
      by None = refl
      by (Some c) = find_position (λ (s : ReferenceDocument). is_name s.name name) c.references

  pub declared_none : (class : ℕ) (name : List ℕ) → place_at class name ≡ None → declared_at document class name ≡ None
  declared_none class name e = at_place class name ∙ ap (option_and_then (λ i. option_and_then (λ c. slice_get c.references i) (slice_get document.classes class))) e

  pub declared_some : (class : ℕ) (name : List ℕ) (i : ℕ) → place_at class name ≡ Some i
      → declared_at document class name ≡ option_and_then (λ c. slice_get c.references i) (slice_get document.classes class)
  declared_some class name i e = at_place class name ∙ ap (option_and_then (λ i. option_and_then (λ c. slice_get c.references i) (slice_get document.classes class))) e

  there : (r : ReferenceDocument) (name : List ℕ) → declared_there document r name ≡ option_and_then (λ n. declared_at document n name) (class_place document r.target)
  there r name =
      ap (option_and_then (λ (c : ClassDocument). find (λ s. is_name s.name name) c.references)) (find_position (λ (c : ClassDocument). is_name c.name r.target) document.classes)
      ∙ by (class_place document r.target)
    where
      by : (p : Option ℕ)
          → option_and_then (λ c. find (λ s. is_name s.name name) c.references) (option_and_then (slice_get document.classes) p) ≡ option_and_then (λ n. declared_at document n name) p
      by None = refl
      by (Some n) = refl

  pub there_none : (r : ReferenceDocument) (name : List ℕ) → class_place document r.target ≡ None → declared_there document r name ≡ None
  there_none r name e = there r name ∙ ap (option_and_then (λ n. declared_at document n name)) e

  pub there_some : (r : ReferenceDocument) (name : List ℕ) (n : ℕ) → class_place document r.target ≡ Some n → declared_there document r name ≡ declared_at document n name
  there_some r name n e = there r name ∙ ap (option_and_then (λ n. declared_at document n name)) e
