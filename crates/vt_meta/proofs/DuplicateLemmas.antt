-- Items by their places, and the names seen before them.
use Rattle.std.proofs.Common.{◌≡◌, ℕ, ◌+◌, List, length, map, get_or, take, sym, ap, subst, ◌∙◌, arith}
use Rattle.std.specs.Prelude.{◌<◌, ◌||◌, is_some}
use Rattle.std.proofs.lemmas.List.{length-append, length-map, get_or-map, get_or_append_left, get_or-append-add}
use Rattle.vt_meta.specs.Declarations.{is_kind_name, item_names}
use Rattle.vt_facts.specs.Names.{is_name}
use Rattle.vt_meta.specs.Faults.{is_taken}
use Rattle.vt_model.specs.Places.{place_in, FindsIn, AddsPlace}
use Rattle.vt_model.specs.declared.places.Places.{Places}
use Rattle.vt_meta.specs.declared.document.EnumDocument.{EnumDocument}
use Rattle.vt_meta.specs.declared.document.ClassDocument.{ClassDocument}
use Rattle.vt_meta.specs.declared.document.MetamodelDocument.{MetamodelDocument}
use Rattle.vt_model.proofs.DistinctLemmas.{is_some-position}
use Rattle.vt_model.proofs.PlacesLemmas.{FindsIn_more}

abbrev enum_name : EnumDocument → List ℕ
enum_name e = e.name

abbrev class_name : ClassDocument → List ℕ
class_name c = c.name

module _ (document : MetamodelDocument) where
  -- a name is taken where it was seen
  pub is_taken-seen : (n : ℕ) (name : List ℕ) (seen : Places) → FindsIn (take n (item_names document)) seen
      → is_taken document n name ≡ (is_kind_name name || is_some (place_in seen name))
  is_taken-seen n name seen finds =
      ap (λ b. is_kind_name name || b) (sym (is_some-position (λ m. is_name m name) (take n (item_names document))) ∙ ap is_some (sym (finds name)))

  -- the name of an enum, or of a class behind the enums, at its place
  pub record IsItem (n : ℕ) (name : List ℕ) : Type 0 where
    pub below : n < length (item_names document)
    pub at : get_or (item_names document) n name ≡ name

  pub IsItem-enum : (i : ℕ) (e : EnumDocument) → i < length document.enums → e ≡ get_or document.enums i e → IsItem i e.name
  IsItem-enum i e below at = record {
    below = simp (length-append, length-map) (omega arith);
    at =
        get_or_append_left (map enum_name document.enums) (map class_name document.classes) e.name i (subst (λ n. i < n) (sym (length-map document.enums enum_name)) below)
        ∙ get_or-map enum_name document.enums i e e.name below
        ∙ ap enum_name (sym at);
  }

  pub IsItem-class : (i : ℕ) (c : ClassDocument) → i < length document.classes → c ≡ get_or document.classes i c → IsItem (length document.enums + i) c.name
  IsItem-class i c below at = record {
    below = simp (length-append, length-map) (omega arith);
    at =
        ap (λ n. get_or (item_names document) (n + i) c.name) (sym (length-map document.enums enum_name))
        ∙ get_or-append-add (map enum_name document.enums) (map class_name document.classes) i c.name
        ∙ get_or-map class_name document.classes i c c.name below
        ∙ ap class_name (sym at);
  }

  -- one more item seen
  pub FindsIn-item : (n : ℕ) (name : List ℕ) (old new : Places) → IsItem n name → FindsIn (take n (item_names document)) old → AddsPlace old new name n → FindsIn (take (n + 1) (item_names document)) new
  FindsIn-item n name old new item finds adds =
      FindsIn_more (item_names document) n name old new item.below finds (subst (λ m. AddsPlace old new m n) (sym item.at) adds)
