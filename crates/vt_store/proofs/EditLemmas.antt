-- What a change puts in and takes out of a list, and the list without it.
use Rattle.std.proofs.Common.{◌≡◌, List, [], ◌∷◌, refl, sym, ap, ◌⊎◌, inl, inr, Bool, true, false}
use Rattle.std.proofs.lemmas.Bool.{false≢true}
use Rattle.std.specs.Prelude.{Contains, not, Decides, ◌||◌}
use Rattle.std.specs.List.{list_any}
use Rattle.std.specs.Cmp.{IsTotalOrder}
use Rattle.std.specs.List.Sorted.{IsStrictlySortedBy}
use Rattle.std.specs.declared.cmp.Ordering.{Ordering}
use Rattle.std.proofs.lemmas.List.Kept.{IsStrictlySortedBy-filter}
use Rattle.std.proofs.lemmas.Map.Views.{Contains-from_any}
use Rattle.vt_facts.proofs.MemberLemmas.{Contains-nil, Contains-cons_cases, Contains-filter, Contains-from_filter}
use Rattle.vt_store.specs.Edits.{without, net, TellsApart, undone_list}
use Rattle.vt_store.proofs.RisingLemmas.{inserted_is}

pub known : (b : Bool) → (b ≡ true) ⊎ (b ≡ false)
known true = inl refl
known false = inr refl

first_or : (a b : Bool) → (a ≡ true) ⊎ (b ≡ true) → (a || b) ≡ true
first_or true b which = refl
first_or false b (inl is) = absurd (false≢true is)
first_or false b (inr is) = is

module _ {T : Type 0} (same : T → T → Bool) (decides : (x y : T) → Decides (same x y) (x ≡ y)) where
  -- ---- a search by whole equality

  pub stands : (xs : List T) (x : T) → Contains xs x → list_any (same x) xs ≡ true
  stands [] x there = absurd (Contains-nil x there)
  stands (y ∷ ys) x there = elim (Contains-cons_cases y x ys there) [
    | inl is ↦ first_or (same x y) (list_any (same x) ys) (inl ((decides x y).1 (sym is)))
    | inr later ↦ first_or (same x y) (list_any (same x) ys) (inr (stands ys x later))
  ]

  pub there : (xs : List T) (x : T) → list_any (same x) xs ≡ true → Contains xs x
  there xs x found = Contains-from_any (λ y z. (decides y z).0) x xs found

  pub absent : (xs : List T) (x : T) → (Contains xs x → ⊥) → list_any (same x) xs ≡ false
  absent xs x none = elim (known (list_any (same x) xs)) [ inl found ↦ absurd (none (there xs x found)) | inr not_found ↦ not_found ]

  -- what one list has without another
  pub Contains-without : (others xs : List T) (x : T) → Contains xs x → (Contains others x → ⊥) → Contains (without same others xs) x
  Contains-without others xs x stood none = Contains-filter (λ y. not (list_any (same y) others)) xs x stood (ap not (absent others x none))

  pub Contains-from_without : (others xs : List T) (x : T) → Contains (without same others xs) x → Contains xs x × (Contains others x → ⊥)
  Contains-from_without others xs x kept =
      let is = Contains-from_filter (λ y. not (list_any (same y) others)) xs x kept in
      (is.0, λ other. let a : not (list_any (same x) others) ≡ false = ap not (stands others x other) in cc)

  -- what came stands after and didn't before, what went stood before and doesn't after
  pub net-tells_apart : (before after : List T) → TellsApart before after (net same before after)
  net-tells_apart before after = record {
    added_stands = λ x came. (Contains-from_without before after x came).0;
    added_is_new = λ x came. (Contains-from_without before after x came).1;
    removed_stood = λ x went. (Contains-from_without after before x went).0;
    removed_is_gone = λ x went. (Contains-from_without after before x went).1;
  }

  -- ---- taken back

  module _ (order : T → T → Ordering) (total : IsTotalOrder order) (before after : List T)
      (rise : IsStrictlySortedBy order before) (risen : IsStrictlySortedBy order after) where
    kept : List T
    kept = without same (net same before after).added after

    kept_stood : (z : T) → Contains kept z → Contains before z
    unfolding kept
    kept_stood z is =
        let here = Contains-from_without (net same before after).added after z is in
        elim (known (list_any (same z) before)) [
          | inl found ↦ there before z found
          | inr none ↦ absurd (here.1 (Contains-filter (λ y. not (list_any (same y) before)) after z here.0 (ap not none)))
        ]

    kept_or_went : (z : T) → Contains before z → Contains kept z ⊎ Contains (net same before after).removed z
    unfolding kept
    kept_or_went z stood = elim (known (list_any (same z) after)) [
      | inl found ↦ inl (Contains-without (net same before after).added after z (there after z found) (λ came. (Contains-from_without before after z came).1 stood))
      | inr none ↦ inr (Contains-filter (λ y. not (list_any (same y) after)) before z stood (ap not none))
    ]

    pub undone_list-net : undone_list order same after (net same before after) ≡ before
    unfolding kept
    undone_list-net = inserted_is order total before rise kept (net same before after).removed
        (IsStrictlySortedBy-filter order (λ x. not (list_any (same x) (net same before after).added)) after risen)
        kept_stood (λ z went. (Contains-from_without after before z went).0) kept_or_went
