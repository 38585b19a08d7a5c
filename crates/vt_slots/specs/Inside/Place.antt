-- Where an item stands in a list that rises by a number, or else where it would go.
use Rattle.std.specs.Prelude.{◌≡◌, ℕ, zero, suc, ◌<◌, List, [], ◌∷◌, Result}
use Rattle.std.specs.List.{AllByRecursion}
use Rattle.std.specs.Result.{MatchResult}

module _ {X : Type 0} (key : X → ℕ) (k : ℕ) where
  -- the item at a place has the number, those before it have lesser ones, those behind it greater ones
  abbrev pub StandsAt : List X → ℕ → Type 0
  StandsAt [] i = ⊥
  StandsAt (x ∷ xs) zero = (key x ≡ k) × AllByRecursion (λ y. k < key y) xs
  StandsAt (x ∷ xs) (suc i) = (key x < k) × StandsAt xs i

  -- no item has the number: those before a place have lesser ones, those from there on greater ones
  abbrev pub GoesAt : List X → ℕ → Type 0
  GoesAt [] zero = Unit {0}
  GoesAt [] (suc i) = ⊥
  GoesAt (x ∷ xs) zero = (k < key x) × AllByRecursion (λ y. k < key y) xs
  GoesAt (x ∷ xs) (suc i) = (key x < k) × GoesAt xs i

  -- what a search for the number answers
  abbrev pub IsPlace : List X → Result ℕ ℕ → Type 0
  IsPlace xs r = MatchResult r (StandsAt xs) (GoesAt xs)
