-- The first place at which a test holds, step by step.
use Rattle.std.proofs.Common.{◌≡◌, ℕ, zero, suc, ◌+◌, List, [], ◌∷◌, length, get_or, drop, refl, sym, ap, subst, ◌∙◌, cond, Bool, true, false, arith}
use Rattle.std.specs.Prelude.{◌<◌, ◌≤◌, slice_get, Some, None, option_map}
use Rattle.std.proofs.lemmas.List.{at_drop_more, at_drop_all}
use Rattle.std.proofs.lemmas.Option.{same_Some}
use Rattle.vt_meta.specs.Faults.{first_place, at_class}
use Rattle.vt_meta.specs.declared.document.ClassDocument.{ClassDocument}
use Rattle.vt_meta.specs.declared.document.MetamodelDocument.{MetamodelDocument}

module _ {X : Type 0} (test : ℕ → X → Bool) (xs : List X) (n i : ℕ) (x : X) (below : i < length xs) (at : x ≡ get_or xs i x) where
  step : first_place test n (drop i xs) ≡ cond (test n x) (Some n) (first_place test (n + 1) (drop (i + 1) xs))
  step = at_drop_more (first_place test n) xs i x below ∙ ap (λ y. cond (test n y) (Some n) (first_place test (n + 1) (drop (i + 1) xs))) (sym at)

  pub first_place_hit : test n x ≡ true → first_place test n (drop i xs) ≡ Some n
  first_place_hit e = step ∙ ap (λ b. cond b (Some n) (first_place test (n + 1) (drop (i + 1) xs))) e

  pub first_place_miss : test n x ≡ false → first_place test n (drop i xs) ≡ first_place test (n + 1) (drop (i + 1) xs)
  first_place_miss e = step ∙ ap (λ b. cond b (Some n) (first_place test (n + 1) (drop (i + 1) xs))) e

pub first_place_end : {X : Type 0} (test : ℕ → X → Bool) (xs : List X) (n i : ℕ) → length xs ≤ i → first_place test n (drop i xs) ≡ None
first_place_end test xs n i past = at_drop_all (first_place test n) xs i past

-- where no item passes with its number, this one doesn't
pub first_place-at : {X : Type 0} (test : ℕ → X → Bool) (n : ℕ) (xs : List X) (i : ℕ) (x : X)
    → first_place test n xs ≡ None → slice_get xs i ≡ Some x → test (n + i) x ≡ false
first_place-at test n [] i x none e = cc
first_place-at {X} test n (y ∷ xs) i x none e = by (λ j later. first_place-at test (n + 1) xs j x later) (test n y) refl none i e
  where
    by : ((j : ℕ) → first_place test (n + 1) xs ≡ None → slice_get xs j ≡ Some x → test (n + 1 + j) x ≡ false)
        → (b : Bool) → test n y ≡ b → cond b (Some n) (first_place test (n + 1) xs) ≡ None → (i : ℕ) → slice_get (y ∷ xs) i ≡ Some x → test (n + i) x ≡ false
    by rest true passes none i e = cc
    by rest false fails none zero e =
        let here : n ≡ n + 0 = omega arith in
        subst (λ m. test m x ≡ false) here (subst (λ z. test n z ≡ false) (same_Some y x e) fails)
    by rest false fails none (suc j) e =
        let here : n + 1 + j ≡ n + suc j = omega arith in
        subst (λ m. test m x ≡ false) here (rest j none e)

-- ---- the first class, by its place behind the enums

module _ (document : MetamodelDocument) (test : ℕ → ClassDocument → Bool) where
  -- no class before the i-th
  abbrev pub NoneBefore : ℕ → Type 0
  NoneBefore i = first_place test i (drop i document.classes) ≡ first_place test 0 document.classes

  pub at_class_hit : (i : ℕ) (c : ClassDocument) → NoneBefore i → i < length document.classes → c ≡ get_or document.classes i c → test i c ≡ true
      → at_class document test ≡ Some (length document.enums + i)
  at_class_hit i c none below at e = ap (λ r. option_map (λ n. length document.enums + n) r) (sym none ∙ first_place_hit test document.classes i i c below at e)

  pub at_class_miss : (i : ℕ) (c : ClassDocument) → NoneBefore i → i < length document.classes → c ≡ get_or document.classes i c → test i c ≡ false → NoneBefore (i + 1)
  at_class_miss i c none below at e = sym (first_place_miss test document.classes i i c below at e) ∙ none

  pub at_class_end : (i : ℕ) → NoneBefore i → length document.classes ≤ i → at_class document test ≡ None
  at_class_end i none past = ap (λ r. option_map (λ n. length document.enums + n) r) (sym none ∙ first_place_end test document.classes i i past)

-- ---- the same for a test of the place alone

element : {X : Type 0} (xs : List X) (i : ℕ) → i < length xs → (x : X) × (x ≡ get_or xs i x)
element [] i below = absurd (omega arith)
element (x ∷ xs) zero below = (x, refl)
element (x ∷ xs) (suc i) below = element xs i (omega arith)

module _ (document : MetamodelDocument) (test : ℕ → Bool) where
  pub at_place_hit : (i : ℕ) → NoneBefore document (λ n c. test n) i → i < length document.classes → test i ≡ true → at_class document (λ n c. test n) ≡ Some (length document.enums + i)
  at_place_hit i none below e = let c = element document.classes i below in at_class_hit document (λ n c. test n) i c.0 none below c.1 e

  pub at_place_miss : (i : ℕ) → NoneBefore document (λ n c. test n) i → i < length document.classes → test i ≡ false → NoneBefore document (λ n c. test n) (i + 1)
  at_place_miss i none below e = let c = element document.classes i below in at_class_miss document (λ n c. test n) i c.0 none below c.1 e
