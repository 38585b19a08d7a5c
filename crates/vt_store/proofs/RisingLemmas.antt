-- Lists that rise in an order: which of them are the same, and what stands in one after items were put in.
use Rattle.std.proofs.Common.{◌≡◌, List, [], ◌∷◌, ◌++◌, subst, ◌⊎◌, inl, inr}
use Rattle.std.specs.Prelude.{Contains, fold}
use Rattle.std.specs.BTreeSet.{insert_key}
use Rattle.std.specs.Cmp.{IsTotalOrder}
use Rattle.std.specs.List.Sorted.{IsStrictlySortedBy}
use Rattle.std.specs.declared.cmp.Ordering.{Ordering}
use Rattle.std.specs.declared.cmp.Ordering.TheVariants.{Less}
use Rattle.std.proofs.lemmas.List.Elements.{All-contains, All-from_recursion, recursion_from_All, Contains-append_left}
use Rattle.vt_facts.proofs.MemberLemmas.{All-from_contains, Contains-nil, Contains-head, Contains-behind, Contains-cons_cases, Contains-insert_key_cases, Contains-insert_key_old}
use Rattle.vt_facts.proofs.OrderedLemmas.{IsStrictlySortedBy-insert_key}
use Rattle.vt_facts.proofs.RisingLemmas.{Contains-insert_key_there, tied_is, same_items}

module _ {K : Type 0} (R : K → K → Ordering) where
  -- ---- the front of a list

  -- what rises does so at its front
  pub rises_front : (xs ys : List K) → IsStrictlySortedBy R (xs ++ ys) → IsStrictlySortedBy R xs
  unfolding IsStrictlySortedBy
  rises_front [] ys rise = tt
  rises_front (x ∷ xs) ys rise = (
    recursion_from_All (λ y. R x y ≡ Less) xs (All-from_contains (λ y. R x y ≡ Less) xs
        (λ z there. All-contains (λ y. R x y ≡ Less) (xs ++ ys) z (All-from_recursion (λ y. R x y ≡ Less) (xs ++ ys) rise.0) (Contains-append_left xs ys z there))),
    rises_front xs ys rise.1,
  )

  -- ---- an item that is put in

  -- what stands after several were put in stood before, or is one of them
  pub Contains-inserted_cases : (xs ys : List K) (z : K) → Contains (fold (insert_key R) xs ys) z → Contains xs z ⊎ Contains ys z
  Contains-inserted_cases xs [] z there = inl there
  Contains-inserted_cases xs (y ∷ ys) z there = elim (Contains-inserted_cases (insert_key R xs y) ys z there) [
    | inl old ↦ elim (Contains-insert_key_cases R y xs z old) [ inl older ↦ inl older | inr is ↦ inr (subst (Contains (y ∷ ys)) is (Contains-head y ys)) ]
    | inr new ↦ inr (Contains-behind y z ys new)
  ]

  -- what stood before stands there still
  pub Contains-inserted_old : (xs ys : List K) (z : K) → Contains xs z → Contains (fold (insert_key R) xs ys) z
  Contains-inserted_old xs [] z there = there
  Contains-inserted_old xs (y ∷ ys) z there = Contains-inserted_old (insert_key R xs y) ys z (Contains-insert_key_old R y xs z there)

  module _ (order : IsTotalOrder R) where
    -- ---- several items that are put in

    -- the list rises still
    pub inserted_rise : (xs ys : List K) → IsStrictlySortedBy R xs → IsStrictlySortedBy R (fold (insert_key R) xs ys)
    inserted_rise xs [] rise = rise
    inserted_rise xs (y ∷ ys) rise = inserted_rise (insert_key R xs y) ys (IsStrictlySortedBy-insert_key R order xs y rise)

    -- where all are items of one list that rises
    module _ (whole : List K) (rise : IsStrictlySortedBy R whole) where
      -- those that were put in stand there
      pub Contains-inserted_new : (xs ys : List K) → ((z : K) → Contains xs z → Contains whole z) → ((z : K) → Contains ys z → Contains whole z)
          → (z : K) → Contains ys z → Contains (fold (insert_key R) xs ys) z
      Contains-inserted_new xs [] old new z there = absurd (Contains-nil z there)
      Contains-inserted_new xs (y ∷ ys) old new z there =
          by (Contains-inserted_new (insert_key R xs y) ys old_or_first (λ w later. new w (Contains-behind y w ys later)) z) (Contains-cons_cases y z ys there)
        where
          first : Contains whole y
          first = new y (Contains-head y ys)

          old_or_first : (w : K) → Contains (insert_key R xs y) w → Contains whole w
          old_or_first w is = elim (Contains-insert_key_cases R y xs w is) [ inl older ↦ old w older | inr same ↦ subst (Contains whole) same first ]

          by : (Contains ys z → Contains (fold (insert_key R) (insert_key R xs y) ys) z) → (y ≡ z) ⊎ Contains ys z → Contains (fold (insert_key R) (insert_key R xs y) ys) z
          by rest (inl is) = subst (Contains (fold (insert_key R) (insert_key R xs y) ys)) is
              (Contains-inserted_old (insert_key R xs y) ys y (Contains-insert_key_there R y xs (λ x older tied. tied_is R order whole rise y x first (old x older) tied)))
          by rest (inr later) = rest later

      -- and where they are all of its items, the list is it
      pub inserted_is : (xs ys : List K) → IsStrictlySortedBy R xs → ((z : K) → Contains xs z → Contains whole z) → ((z : K) → Contains ys z → Contains whole z)
          → ((z : K) → Contains whole z → Contains xs z ⊎ Contains ys z) → fold (insert_key R) xs ys ≡ whole
      inserted_is xs ys sorted old new all = same_items R order (fold (insert_key R) xs ys) whole (inserted_rise xs ys sorted) rise
          (λ z there. elim (Contains-inserted_cases xs ys z there) [ inl older ↦ old z older | inr newer ↦ new z newer ])
          (λ z there. elim (all z there) [ inl older ↦ Contains-inserted_old xs ys z older | inr newer ↦ Contains-inserted_new xs ys old new z newer ])
