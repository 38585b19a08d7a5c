-- The names of a document by their places.
use Rattle.std.proofs.Common.{◌≡◌, ℕ, zero, suc, map, ◌+◌, List, [], ◌∷◌, ◌++◌, length, refl, sym, ap, subst, ◌∙◌, take, get_or}
use Rattle.std.specs.Prelude.{◌<◌}
use Rattle.std.proofs.lemmas.List.{take_more}
use Rattle.vt_facts.specs.Names.{is_name}
use Rattle.vt_meta.specs.Inside.Places.{FindsEnum, FindsClass, FindEachReference, FindReferences}
use Rattle.vt_model.specs.Places.{FindsIn}
use Rattle.vt_meta.specs.declared.document.EnumDocument.{EnumDocument}
use Rattle.vt_meta.specs.declared.document.ClassDocument.{ClassDocument}
use Rattle.vt_meta.specs.declared.document.ReferenceDocument.{ReferenceDocument}
use Rattle.vt_model.specs.declared.places.Places.{Places}
use Rattle.vt_facts.proofs.PositionLemmas.{position-map}

-- ---- the names of a document

pub finds_enums : (enums : List EnumDocument) (p : Places) → FindsIn (map (λ e. e.name) enums) p → FindsEnum enums p
finds_enums enums p finds name = finds name ∙ position-map (λ (e : EnumDocument). e.name) (λ n. is_name n name) enums

pub finds_classes : (classes : List ClassDocument) (p : Places) → FindsIn (map (λ c. c.name) classes) p → FindsClass classes p
finds_classes classes p finds name = finds name ∙ position-map (λ (c : ClassDocument). c.name) (λ n. is_name n name) classes

pub finds_references : (classes : List ClassDocument) (places : List Places) → FindEachReference classes places → FindReferences classes places
finds_references [] [] each i name = refl
finds_references [] (p ∷ places) each i name = absurd each
finds_references (c ∷ classes) [] each i name = absurd each
finds_references (c ∷ classes) (p ∷ places) each zero name = each.0 name ∙ position-map (λ (r : ReferenceDocument). r.name) (λ n. is_name n name) c.references
finds_references (c ∷ classes) (p ∷ places) each (suc i) name = finds_references classes places each.1 i name

FindEachReference-push : (classes : List ClassDocument) (places : List Places) (class : ClassDocument) (p : Places)
    → FindEachReference classes places → FindsIn (map (λ r. r.name) class.references) p → FindEachReference (classes ++ class ∷ []) (places ++ p ∷ [])
FindEachReference-push [] [] class p each finds = (finds, tt)
FindEachReference-push [] (q ∷ places) class p each finds = absurd each
FindEachReference-push (c ∷ classes) [] class p each finds = absurd each
FindEachReference-push (c ∷ classes) (q ∷ places) class p each finds = (each.0, FindEachReference-push classes places class p each.1 finds)

-- at a step of a loop
pub each_more : (classes : List ClassDocument) (places : List Places) (i : ℕ) (class : ClassDocument) (p : Places) → i < length classes → class ≡ get_or classes i class
    → FindEachReference (take i classes) places → FindsIn (map (λ r. r.name) class.references) p → FindEachReference (take (i + 1) classes) (places ++ p ∷ [])
each_more classes places i class p below at each finds =
    let more : take (i + 1) classes ≡ take i classes ++ class ∷ [] = take_more classes i class below ∙ ap (λ c. take i classes ++ c ∷ []) (sym at) in
    subst (λ l. FindEachReference l (places ++ p ∷ [])) (sym more) (FindEachReference-push (take i classes) places class p each finds)
