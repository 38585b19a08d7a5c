-- What one list has that another one hasn't.
use Rattle.std.proofs.Common.{◌≡◌, List, [], ◌∷◌, ◌++◌, refl, sym, ap, subst, ◌∙◌, Bool, true, false, not, inl, inr}
use Rattle.std.specs.Prelude.{◌&&◌, ◌||◌, filter, Contains}
use Rattle.std.specs.List.{list_any}
use Rattle.vt_facts.proofs.MemberLemmas.{Contains-nil, Contains-cons_cases}
use Rattle.vt_store.specs.Edits.{without}
use Rattle.vt_facts.proofs.ChosenLemmas.{filter-all, filter-agree, filter-none, filter-filter}

module _ {X : Type 0} where
  module _ (same : X → X → Bool) where
    -- neither of two
    neither : (a b : Bool) → (not a && not b) ≡ not (b || a)
    neither true true = refl
    neither true false = refl
    neither false true = refl
    neither false false = refl

    -- without nothing it is whole
    pub without-none : (xs : List X) → without same [] xs ≡ xs
    without-none xs = filter-all (λ x. not (list_any (same x) [])) xs (λ x there. refl)

    -- one item goes, and then the others
    pub without-cons : (y : X) (ys xs : List X) → without same ys (filter (λ x. not (same x y)) xs) ≡ without same (y ∷ ys) xs
    without-cons y ys xs =
        filter-filter (λ x. not (list_any (same x) ys)) (λ x. not (same x y)) xs
        ∙ filter-agree (λ x. not (same x y) && not (list_any (same x) ys)) (λ x. not (same x y || list_any (same x) ys)) xs
        (λ x there. neither (same x y) (list_any (same x) ys) ∙ ap not (swap (list_any (same x) ys) (same x y)))
      where
        swap : (a b : Bool) → (a || b) ≡ (b || a)
        swap true true = refl
        swap true false = refl
        swap false true = refl
        swap false false = refl

    -- the last item goes, and then those before it
    pub without-push : (ys : List X) (y : X) (xs : List X) → without same ys (filter (λ x. not (same x y)) xs) ≡ without same (ys ++ y ∷ []) xs
    without-push ys y xs =
        filter-filter (λ x. not (list_any (same x) ys)) (λ x. not (same x y)) xs
        ∙ filter-agree (λ x. not (same x y) && not (list_any (same x) ys)) (λ x. not (list_any (same x) (ys ++ y ∷ []))) xs
        (λ x there. neither (same x y) (list_any (same x) ys) ∙ ap not (sym (pushed x ys)))
      where
        pushed : (x : X) (zs : List X) → list_any (same x) (zs ++ y ∷ []) ≡ (list_any (same x) zs || same x y)
        pushed x [] = alone (same x y)
          where
            alone : (b : Bool) → (b || false) ≡ b
            alone true = refl
            alone false = refl
        pushed x (z ∷ zs) = elim (same x z) as (λ b. (b || list_any (same x) (zs ++ y ∷ [])) ≡ ((b || list_any (same x) zs) || same x y)) [ true ↦ refl | false ↦ pushed x zs ]

    -- the others go, and then one item
    pub without-then : (y : X) (ys xs : List X) → filter (λ x. not (same x y)) (without same ys xs) ≡ without same (y ∷ ys) xs
    without-then y ys xs =
        filter-filter (λ x. not (same x y)) (λ x. not (list_any (same x) ys)) xs
        ∙ filter-agree (λ x. not (list_any (same x) ys) && not (same x y)) (λ x. not (same x y || list_any (same x) ys)) xs
        (λ x there. neither (list_any (same x) ys) (same x y))

    -- without itself nothing is left
    pub without-itself : ((x : X) → same x x ≡ true) → (xs : List X) → without same xs xs ≡ []
    without-itself itself xs = filter-none (λ x. not (list_any (same x) xs)) xs (λ x there. ap not (found x xs there))
      where
        found : (x : X) (ys : List X) → Contains ys x → list_any (same x) ys ≡ true
        found x [] there = absurd (Contains-nil x there)
        found x (y ∷ ys) there = elim (Contains-cons_cases y x ys there) [
          | inl is ↦ ap (λ b. b || list_any (same x) ys) (subst (λ z. same x z ≡ true) (sym is) (itself x))
          | inr later ↦ by (same x y) (found x ys later)
        ]
          where
            by : (b : Bool) → list_any (same x) ys ≡ true → (b || list_any (same x) ys) ≡ true
            by true e = refl
            by false e = e
