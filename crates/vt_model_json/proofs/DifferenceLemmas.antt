-- Deltas that are added one after the other.
use Rattle.std.proofs.Common.{◌≡◌, ℕ, zero, suc, List, [], ◌∷◌, ◌++◌, length, refl, sym, ap, subst, ◌∙◌, ◌⊎◌, inl, inr, slice_get, Some}
use Rattle.vt_delta.specs.declared.delta.Delta.{Delta}
use Rattle.vt_base.specs.declared.value.Value.{Value}
use Rattle.vt_model_json.specs.Difference.{IsAllAdded, AreAllAdded}

-- what a list has is what it had before, or what was added at its end
pub slice_get-added : {A : Type 0} (xs : List A) (x y : A) (i : ℕ) → slice_get (xs ++ x ∷ []) i ≡ Some y → (slice_get xs i ≡ Some y) ⊎ ((i ≡ length xs) × (x ≡ y))
slice_get-added [] x y zero is = inr (refl, cc)
slice_get-added [] x y (suc i) is = cc
slice_get-added (z ∷ zs) x y zero is = inl is
slice_get-added (z ∷ zs) x y (suc i) is = elim (slice_get-added zs x y i is) [ inl old ↦ inl old | inr new ↦ inr (ap suc new.0, new.1) ]

-- the next delta adds the rows of the next number
pub add_delta : (rows : ℕ → List (List Value)) (n : ℕ) (deltas : List Delta) (delta : Delta)
    → length deltas ≡ n → AreAllAdded rows deltas → IsAllAdded (rows n) delta → AreAllAdded rows (deltas ++ delta ∷ [])
add_delta rows n deltas delta count before here i d is = elim (slice_get-added deltas delta d i is) [
  | inl old ↦ before i d old
  | inr new ↦ subst (λ d. IsAllAdded (rows i) d) new.1 (subst (λ m. IsAllAdded (rows m) delta) (sym (new.0 ∙ count)) here)
]
