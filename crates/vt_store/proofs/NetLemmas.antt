-- What changed between two lists, as short lists.
use Rattle.std.proofs.Common.{◌≡◌, List, [], ◌∷◌, ◌++◌, refl, sym, ap, ap₂, subst, ◌∙◌, ◌⊎◌, inl, inr, Bool, not}
use Rattle.std.specs.Prelude.{Contains, Decides, filter}
use Rattle.std.specs.Cmp.{IsTotalOrder}
use Rattle.std.specs.List.{list_any}
use Rattle.std.specs.List.Sorted.{IsStrictlySortedBy}
use Rattle.std.specs.declared.cmp.Ordering.{Ordering}
use Rattle.std.proofs.lemmas.List.Elements.{filter-append}
use Rattle.std.proofs.lemmas.List.Kept.{IsStrictlySortedBy-filter}
use Rattle.vt_facts.proofs.MemberLemmas.{Contains-nil, Contains-cons_cases}
use Rattle.std.proofs.lemmas.List.Elements.{Contains-append_left}
use Rattle.std.proofs.lemmas.Bool.{both_ways}
use Rattle.vt_store.specs.Edits.{ListChange, TellsApart, without, net}
use Rattle.vt_store.specs.Inside.Displaced.{no_change}
use Rattle.vt_store.proofs.EditLemmas
use Rattle.vt_store.proofs.EditLemmas.{known, stands, absent, Contains-without, Contains-from_without, net-tells_apart}
use Rattle.vt_store.proofs.Linking.Lists.{without-itself}
use Rattle.vt_facts.proofs.RisingLemmas.{same_items}
use Rattle.vt_facts.proofs.ChosenLemmas.{filter-all, filter-none}

-- ---- one item

-- an item alone rises
pub rises-one : {K : Type 0} (R : K → K → Ordering) (x : K) → IsStrictlySortedBy R (x ∷ [])
unfolding IsStrictlySortedBy
rises-one R x = (tt, tt)

-- what stands in a list of one is it
pub Contains-one : {K : Type 0} (x z : K) → Contains (x ∷ []) z → x ≡ z
Contains-one x z there = elim (Contains-cons_cases x z [] there) [ inl is ↦ is | inr later ↦ absurd (Contains-nil z later) ]

module _ {T : Type 0} (same : T → T → Bool) (decides : (x y : T) → Decides (same x y) (x ≡ y)) where
  -- ---- a list that stays, and one with more at its end

  pub net-same : (xs : List T) → net same xs xs ≡ no_change
  net-same xs = ap (λ none. record { added = none; removed = none }) (without-itself same (λ x. (decides x x).1 refl) xs)

  -- what comes at the end is what came
  pub net-appended : (xs ys : List T) → ((y : T) → Contains ys y → Contains xs y → ⊥) → net same xs (xs ++ ys) ≡ record { added = ys; removed = [] }
  net-appended xs ys new = λ i. record { added = added i; removed = removed i }
    where
      is_new : T → Bool
      is_new x = not (list_any (same x) xs)

      added : filter is_new (xs ++ ys) ≡ ys
      added = filter-append is_new xs ys
          ∙ ap₂ (λ a b. a ++ b) (filter-none is_new xs (λ x there. ap not (stands same decides xs x there))) (filter-all is_new ys (λ y there. ap not (absent same decides xs y (new y there))))

      removed : without same (xs ++ ys) xs ≡ []
      removed = filter-none (λ x. not (list_any (same x) (xs ++ ys))) xs (λ x there. ap not (stands same decides (xs ++ ys) x (Contains-append_left xs ys x there)))

  -- ---- lists that rise

  module _ (order : T → T → Ordering) (total : IsTotalOrder order) (before after : List T)
      (rise : IsStrictlySortedBy order before) (risen : IsStrictlySortedBy order after) where
    -- what came and what went, where each item stands in both or is one of these
    pub net-is : (came went : List T) → IsStrictlySortedBy order came → IsStrictlySortedBy order went
        → ((z : T) → Contains came z → Contains after z) → ((z : T) → Contains came z → Contains before z → ⊥)
        → ((z : T) → Contains went z → Contains before z) → ((z : T) → Contains went z → Contains after z → ⊥)
        → ((z : T) → Contains after z → Contains before z ⊎ Contains came z) → ((z : T) → Contains before z → Contains after z ⊎ Contains went z)
        → net same before after ≡ record { added = came; removed = went }
    net-is came went came_rise went_rise came_stand came_new went_stood went_gone from to = λ i. record {
      added = only before after came risen came_rise came_stand came_new from i;
      removed = only after before went rise went_rise went_stood went_gone to i;
    }
      where
        only : (others list few : List T) → IsStrictlySortedBy order list → IsStrictlySortedBy order few
            → ((z : T) → Contains few z → Contains list z) → ((z : T) → Contains few z → Contains others z → ⊥) → ((z : T) → Contains list z → Contains others z ⊎ Contains few z)
            → without same others list ≡ few
        only others list few list_rise few_rise there apart each =
            same_items order total (without same others list) few (IsStrictlySortedBy-filter order (λ x. not (list_any (same x) others)) list list_rise) few_rise
            (λ z kept. let is = Contains-from_without same decides others list z kept in elim (each z is.0) [ inl other ↦ absurd (is.1 other) | inr one ↦ one ])
            (λ z one. Contains-without same decides others list z (there z one) (apart z one))

-- ---- of what changed

module _ {T : Type 0} (same : T → T → Bool) (decides : (x y : T) → Decides (same x y) (x ≡ y)) (before after : List T) (change : ListChange T) (is : change ≡ net same before after) where
  -- what came stands after and not before, what went stood before and doesn't after
  pub tells_apart : TellsApart before after change
  tells_apart = subst (TellsApart before after) (sym is) (net-tells_apart same decides before after)

  -- what stands after stood before or came
  pub stood_or_came : (z : T) → Contains after z → Contains before z ⊎ Contains change.added z
  stood_or_came z there = elim (known (list_any (same z) before)) [
    | inl found ↦ inl (EditLemmas.there same decides before z found)
    | inr none ↦ inr (subst (λ c. Contains c.added z) (sym is)
        (Contains-without same decides before after z there (λ stood. both_ways (list_any (same z) before) none (stands same decides before z stood))))
  ]

  -- what stood before stands after or went
  pub stands_or_went : (z : T) → Contains before z → Contains after z ⊎ Contains change.removed z
  stands_or_went z stood = elim (known (list_any (same z) after)) [
    | inl found ↦ inl (EditLemmas.there same decides after z found)
    | inr none ↦ inr (subst (λ c. Contains c.removed z) (sym is)
        (Contains-without same decides after before z stood (λ there. both_ways (list_any (same z) after) none (stands same decides after z there))))
  ]

  -- what stands after and didn't come stood before
  pub kept_stood : (z : T) → Contains (without same change.added after) z → Contains before z
  kept_stood z kept =
      let was = Contains-from_without same decides change.added after z kept in
      elim (stood_or_came z was.0) [ inl stood ↦ stood | inr came ↦ absurd (was.1 came) ]
