-- The deltas at all numbers, as the change at one of them turns.
use Rattle.std.proofs.Common.{◌≡◌, ℕ, zero, suc, List, [], ◌∷◌, Some, refl, sym, ap, ◌∙◌, arith}
use Rattle.vt_delta.specs.Deltas.{AreEach}
use Rattle.vt_delta.specs.Changes.{Change, change_of, changes_of, turned_at}
use Rattle.vt_delta.specs.declared.delta.Delta.{Delta}

first_is : (c d : Change) (cs ds : List Change) → (c ∷ cs) ≡ (d ∷ ds) → c ≡ d
first_is c d cs ds e = cc e

rest_is : (c d : Change) (cs ds : List Change) → (c ∷ cs) ≡ (d ∷ ds) → cs ≡ ds
rest_is c d cs ds e = cc e

found_is : (x y : Delta) → Some x ≡ Some y → x ≡ y
found_is x y e = cc e

apart_next : (m n : ℕ) → (m ≡ n → ⊥) → suc m ≡ suc n → ⊥
apart_next m n apart e = apart (omega (arith, e))

-- equal changes are of the same numbers
AreEach-same : (is was : ℕ → Change) (old new : List Delta) → changes_of new ≡ changes_of old
    → AreEach (λ m delta. change_of delta ≡ was m) old → ((m : ℕ) → is m ≡ was m) → AreEach (λ m delta. change_of delta ≡ is m) new
AreEach-same is was old [] e each others m delta at = cc at
AreEach-same is was [] (d ∷ ds) e each others m delta at = cc e
AreEach-same is was (x ∷ xs) (d ∷ ds) e each others zero delta at =
    ap change_of (sym (found_is d delta at)) ∙ first_is (change_of d) (change_of x) (changes_of ds) (changes_of xs) e ∙ each 0 x refl ∙ sym (others 0)
AreEach-same is was (x ∷ xs) (d ∷ ds) e each others (suc m) delta at =
    AreEach-same (λ k. is (suc k)) (λ k. was (suc k)) xs ds (rest_is (change_of d) (change_of x) (changes_of ds) (changes_of xs) e)
    (λ k y found. each (suc k) y found) (λ k. others (suc k)) m delta at

pub AreEach-turned : (is was : ℕ → Change) (turn : Change → Change) (old new : List Delta) (n : ℕ)
    → changes_of new ≡ turned_at turn (changes_of old) n
    → AreEach (λ m delta. change_of delta ≡ was m) old
    → is n ≡ turn (was n) → ((m : ℕ) → (m ≡ n → ⊥) → is m ≡ was m)
    → AreEach (λ m delta. change_of delta ≡ is m) new
AreEach-turned is was turn old [] n e each there others m delta at = cc at
AreEach-turned is was turn [] (d ∷ ds) n e each there others m delta at = cc e
AreEach-turned is was turn (x ∷ xs) (d ∷ ds) zero e each there others zero delta at =
    ap change_of (sym (found_is d delta at)) ∙ first_is (change_of d) (turn (change_of x)) (changes_of ds) (changes_of xs) e
    ∙ ap turn (each 0 x refl) ∙ sym there
AreEach-turned is was turn (x ∷ xs) (d ∷ ds) zero e each there others (suc m) delta at =
    AreEach-same (λ k. is (suc k)) (λ k. was (suc k)) xs ds (rest_is (change_of d) (turn (change_of x)) (changes_of ds) (changes_of xs) e)
    (λ k y found. each (suc k) y found) (λ k. others (suc k) (λ same. cc same)) m delta at
AreEach-turned is was turn (x ∷ xs) (d ∷ ds) (suc n) e each there others zero delta at =
    ap change_of (sym (found_is d delta at)) ∙ first_is (change_of d) (change_of x) (changes_of ds) (turned_at turn (changes_of xs) n) e
    ∙ each 0 x refl ∙ sym (others 0 (λ same. cc same))
AreEach-turned is was turn (x ∷ xs) (d ∷ ds) (suc n) e each there others (suc m) delta at =
    AreEach-turned (λ k. is (suc k)) (λ k. was (suc k)) turn xs ds n (rest_is (change_of d) (change_of x) (changes_of ds) (turned_at turn (changes_of xs) n) e)
    (λ k y found. each (suc k) y found) there (λ k apart. others (suc k) (apart_next k n apart)) m delta at
