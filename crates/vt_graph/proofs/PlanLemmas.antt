-- What is worked out class by class: one class more, and all of them.
use Rattle.std.proofs.Common.{◌≡◌, ℕ, ◌+◌, zero, suc, ◌<◌, List, [], ◌∷◌, ◌++◌, drop, refl, ap, arith, ◌⊎◌, inl, inr, subst, sym, ◌∙◌, length, append_assoc, true, false}
use Rattle.std.specs.Prelude.{slice_get, Some, if◌then◌else◌}
use Rattle.std.proofs.lemmas.List.{drop_more, length_push}
use Rattle.vt_base.specs.declared.numbers.ObjId.{ObjId}
use Rattle.vt_base.specs.declared.numbers.ClassId.{ClassId}
use Rattle.vt_model.specs.Metamodel.{Metamodel, isa}
use Rattle.vt_model.specs.declared.metamodel.ClassInfo.{ClassInfo}
use Rattle.vt_model.proofs.SearchLemmas.{slice_get-below}
use Rattle.vt_graph.specs.Inside.Planned.{above_from, plan_of, ArePlans, AreListings}
use Rattle.vt_graph.specs.declared.plan.ClassPlan.{ClassPlan}

-- the classes above one, from a class that is there on
above_next : (meta : Metamodel) (c : ClassId) (d n : ℕ) (infos : List ClassInfo) → n < length infos
    → above_from meta c d (drop n infos)
    ≡ (if isa meta c (record { 0 = d }) then record { 0 = d } ∷ above_from meta c (d + 1) (drop (n + 1) infos) else above_from meta c (d + 1) (drop (n + 1) infos))
above_next meta c d n infos few = let first = slice_get-below infos n few in rw (drop_more infos n first.0 few) refl

-- what is found so far, then what is left, is the whole: with the next class, where it is above
pub above_with : (meta : Metamodel) (c : ClassId) (d : ℕ) (infos : List ClassInfo) (found whole : List ClassId) → d < length infos
    → found ++ above_from meta c d (drop d infos) ≡ whole → isa meta c (record { 0 = d }) ≡ true
    → (found ++ record { 0 = d } ∷ []) ++ above_from meta c (d + 1) (drop (d + 1) infos) ≡ whole
above_with meta c d infos found whole few so_far is =
    append_assoc found (record { 0 = d } ∷ []) (above_from meta c (d + 1) (drop (d + 1) infos))
    ∙ ap (λ rest. found ++ rest) (sym (above_next meta c d d infos few ∙ rw is refl)) ∙ so_far

pub above_without : (meta : Metamodel) (c : ClassId) (d : ℕ) (infos : List ClassInfo) (found whole : List ClassId) → d < length infos
    → found ++ above_from meta c d (drop d infos) ≡ whole → isa meta c (record { 0 = d }) ≡ false
    → found ++ above_from meta c (d + 1) (drop (d + 1) infos) ≡ whole
above_without meta c d infos found whole few so_far is =
    ap (λ rest. found ++ rest) (sym (above_next meta c d d infos few ∙ rw is refl)) ∙ so_far

-- ---- an item for each class

-- an item that stood before one was added
slice_get-push_old : {A : Type 0} (xs : List A) (x : A) (i : ℕ) → i < length xs → slice_get (xs ++ x ∷ []) i ≡ slice_get xs i
slice_get-push_old [] x i few = absurd (omega arith)
slice_get-push_old (y ∷ ys) x zero few = refl
slice_get-push_old (y ∷ ys) x (suc i) few = slice_get-push_old ys x i (omega arith)

-- the one that was added
slice_get-push_new : {A : Type 0} (xs : List A) (x : A) → slice_get (xs ++ x ∷ []) (length xs) ≡ Some x
slice_get-push_new [] x = refl
slice_get-push_new (y ∷ ys) x = slice_get-push_new ys x

less_or_is : (i m : ℕ) → i < m + 1 → (i < m) ⊎ (i ≡ m)
less_or_is zero zero below = inr refl
less_or_is zero (suc m) below = inl (omega arith)
less_or_is (suc i) zero below = absurd (omega arith)
less_or_is (suc i) (suc m) below = elim (less_or_is i m (omega arith)) [ inl less ↦ inl (omega arith) | inr is ↦ inr (ap suc is) ]

module _ {A : Type 0} (f : ClassId → A) where
  -- for each class before the n-th its item
  abbrev pub HasEach : List A → ℕ → Type 0
  HasEach items n = (length items ≡ n) × ((c : ClassId) → c.0 < n → slice_get items c.0 ≡ Some (f c))

  pub has_each_push : (items : List A) (n : ℕ) (x : A) → HasEach items n → x ≡ f (record { 0 = n }) → HasEach (items ++ x ∷ []) (n + 1)
  has_each_push items n x has is = (length_push items x ∙ ap (λ m. m + 1) has.0, each)
    where
      here : slice_get (items ++ x ∷ []) n ≡ Some (f (record { 0 = n }))
      here = subst (λ m. slice_get (items ++ x ∷ []) m ≡ Some (f (record { 0 = n }))) has.0 (slice_get-push_new items x ∙ ap Some is)

      each : (c : ClassId) → c.0 < n + 1 → slice_get (items ++ x ∷ []) c.0 ≡ Some (f c)
      each c below = elim (less_or_is c.0 n below) [
        | inl less ↦ slice_get-push_old items x c.0 (subst (λ m. c.0 < m) (sym has.0) less) ∙ has.1 c less
        | inr is ↦ subst (λ m. slice_get (items ++ x ∷ []) m ≡ Some (f (record { 0 = m }))) (sym is) here
      ]

-- no objects
pub no_objects : ClassId → List ObjId
no_objects c = []

pub is_no_objects : (c : ClassId) → [] ≡ no_objects c
unfolding no_objects
is_no_objects c = refl

-- an empty listing for each class
pub are_listings : (meta : Metamodel) (listings : List (List ObjId)) (n : ℕ) → HasEach no_objects listings n → n ≡ length meta.classes → AreListings meta [] listings
unfolding no_objects
are_listings meta listings n has all = record {
  many = has.0 ∙ all;
  each = λ c there. has.1 c (subst (λ m. c.0 < m) (sym all) there);
}

-- a plan for each class
pub are_plans : (meta : Metamodel) (plans : List ClassPlan) (n : ℕ) → HasEach (plan_of meta) plans n → n ≡ length meta.classes → ArePlans meta plans
are_plans meta plans n has all = record {
  many = has.0 ∙ all;
  each = λ c there. has.1 c (subst (λ m. c.0 < m) (sym all) there);
}
