-- The text of the values after the first is what follows the first in the text of all.
use Rattle.std.proofs.Common.{◌≡◌, ℕ, List, [], ◌∷◌, ◌++◌, refl, sym, ap, ◌∙◌, subst, suc, ◌<◌, length, drop}
use Rattle.std.proofs.Math.Seq.{drop-cons}
use Rattle.std.specs.Prelude.{codes}
use Rattle.std.specs.List.{join_by, flat_map, slice_index_or}
use Rattle.vt_base.specs.Names.{EnumNames, ObjectName}
use Rattle.vt_base.specs.Written.{value_text, AppendsFront}
use Rattle.vt_base.specs.Inside.Further.{further_text}
use Rattle.vt_base.proofs.WrittenLemmas.{IsWritten, AppendsFront-next}
use Rattle.vt_base.specs.declared.value.Value.{Value}

module _ (enums : List EnumNames) (objects : List ObjectName) where
  -- ---- further_text

  flat_map-further_text : (values : List Value) → flat_map (λ v. codes ", " ++ value_text enums objects v) values ≡ further_text enums objects values
  flat_map-further_text [] = refl
  flat_map-further_text (v ∷ vs) = ap (λ (rest : List ℕ). (codes ", " ++ value_text enums objects v) ++ rest) (flat_map-further_text vs)

  -- the first value, then the others
  pub first-further_text : (values : List Value) (v : Value) (vs : List Value) → values ≡ v ∷ vs → value_text enums objects v ++ further_text enums objects vs ≡ join_by (value_text enums objects) (codes ", ") values
  first-further_text values v vs is =
      ap (λ (rest : List ℕ). value_text enums objects v ++ rest) (sym (flat_map-further_text vs))
      ∙ ap (λ (all : List Value). join_by (value_text enums objects) (codes ", ") all) (sym is)

  pub AppendsFront-values : (values : List Value) (v : Value) (vs : List Value) → values ≡ v ∷ vs → (old new : List ℕ) → AppendsFront old new (value_text enums objects v ++ further_text enums objects vs) → AppendsFront old new (join_by (value_text enums objects) (codes ", ") values)
  AppendsFront-values values v vs is old new f = subst (λ (text : List ℕ). AppendsFront old new text) (first-further_text values v vs is) f

  -- the values before a place were written, and the one there was begun
  pub AppendsFront-at : (values : List Value) (i : ℕ) (v : Value) → i < length values → v ≡ slice_index_or values i v → (old mid new : List ℕ) → IsWritten old mid (further_text enums objects values) (further_text enums objects (drop i values)) → AppendsFront mid new (codes ", " ++ value_text enums objects v) → AppendsFront old new (further_text enums objects values)
  AppendsFront-at values i v inside is old mid new w f =
      let split : drop i values ≡ v ∷ drop (suc i) values = drop-cons values i v inside ∙ ap (λ (x : Value). x ∷ drop (suc i) values) (sym is) in
      let before : IsWritten old mid (further_text enums objects values) (further_text enums objects (v ∷ drop (suc i) values)) = subst (λ (rest : List Value). IsWritten old mid (further_text enums objects values) (further_text enums objects rest)) split w in
      AppendsFront-next old mid new (further_text enums objects values) (codes ", " ++ value_text enums objects v) (further_text enums objects (drop (suc i) values)) before f
