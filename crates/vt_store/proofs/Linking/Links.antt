-- Links: the same by the test, in order, and of those that stand.
use Rattle.std.proofs.Common.{◌≡◌, List, [], ◌∷◌, refl, sym, ap, subst, Bool, true, false, inl, inr}
use Rattle.std.specs.Prelude.{◌||◌, Contains}
use Rattle.std.specs.List.{list_any}
use Rattle.std.proofs.lemmas.Bool.{both_ways, false_from_ne_true}
use Rattle.std.proofs.lemmas.List.Folds.{Any-from_list_any}
use Rattle.vt_model.specs.Linking.{is_link}
use Rattle.vt_model.specs.declared.model.Link.{Link}
use Rattle.vt_facts.proofs.MemberLemmas.{Contains-nil, Contains-cons_cases}
use Rattle.vt_graph.proofs.Linked.Changed.{is_link-same, is_link-itself}

-- ---- the same link

-- links that differ the test finds to differ
pub is_link-differs : (a b : Link) → (a ≡ b → ⊥) → is_link a b ≡ false
is_link-differs a b differ = false_from_ne_true (is_link a b) (λ e. differ (is_link-same a b e))

-- ---- links that stand

-- a link that the test finds is there
pub Contains-listed : (links : List Link) (x : Link) → list_any (is_link x) links ≡ true → Contains links x
Contains-listed links x e =
    let at = Any-from_list_any (is_link x) links e in
    subst (Contains links) (sym (is_link-same x at.1 at.4)) (at.0, at.2, at.3)

-- and a link that is there the test finds
pub listed-Contains : (links : List Link) (x : Link) → Contains links x → list_any (is_link x) links ≡ true
listed-Contains [] x there = absurd (Contains-nil x there)
listed-Contains (y ∷ ys) x there = elim (Contains-cons_cases y x ys there) [
  | inl is ↦ ap (λ b. b || list_any (is_link x) ys) (subst (λ z. is_link x z ≡ true) (sym is) (is_link-itself x))
  | inr later ↦ by (is_link x y) (listed-Contains ys x later)
]
  where
    by : (b : Bool) → list_any (is_link x) ys ≡ true → (b || list_any (is_link x) ys) ≡ true
    by true e = refl
    by false e = e

-- where the test doesn't find it, it isn't there
pub not_listed : (links : List Link) (x : Link) → list_any (is_link x) links ≡ false → Contains links x → ⊥
not_listed links x e there = both_ways (list_any (is_link x) links) e (listed-Contains links x there)

-- and where it isn't there, the test doesn't find it
pub not_there : (links : List Link) (x : Link) → (Contains links x → ⊥) → list_any (is_link x) links ≡ false
not_there links x none = false_from_ne_true (list_any (is_link x) links) (λ e. none (Contains-listed links x e))
