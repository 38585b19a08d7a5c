-- What one list has without another, and lists that are the same.
use Rattle.std.proofs.Common.{◌≡◌, Bool, true, false, not, List, [], ◌∷◌, refl, sym, ap, subst, ◌∙◌, ◌⊎◌, inl, inr}
use Rattle.std.proofs.lemmas.Bool.{true≢false}
use Rattle.std.specs.Prelude.{◌≢◌, Contains, Decides}
use Rattle.std.specs.List.{list_any}
use Rattle.std.specs.List.Sorted.{IsStrictlySortedBy}
use Rattle.std.specs.Cmp.{IsTotalOrder}
use Rattle.std.specs.declared.cmp.Ordering.{Ordering}
use Rattle.std.proofs.lemmas.Map.Made.{is_member-Decides}
use Rattle.vt_facts.proofs.MemberLemmas.{Contains-nil, Contains-head, Contains-filter, Contains-from_filter}
use Rattle.vt_facts.proofs.RisingLemmas.{same_items}
use Rattle.vt_store.specs.Edits.{without}

module _ {T : Type 0} (same : T → T → Bool) (decides : (x y : T) → Decides (same x y) (x ≡ y)) where
  -- what one list has without the other
  pub Contains-without : (others xs : List T) (x : T) → Contains xs x → (Contains others x → ⊥) → Contains (without same others xs) x
  Contains-without others xs x there none = Contains-filter (λ y. not (list_any (same y) others)) xs x there (by (list_any (same x) others) refl)
    where
      by : (b : Bool) → list_any (same x) others ≡ b → not b ≡ true
      by true found = absurd (none ((is_member-Decides decides others x).0 found))
      by false found = refl

  pub Contains-from_without : (others xs : List T) (x : T) → Contains (without same others xs) x → Contains xs x × (Contains others x → ⊥)
  Contains-from_without others xs x there =
      let both = Contains-from_filter (λ y. not (list_any (same y) others)) xs x there in
      (both.0, λ other. true≢false (sym both.1 ∙ ap not ((is_member-Decides decides others x).1 other)))

  -- where nothing of the one is missing in the other
  none_missing : (others xs : List T) → without same others xs ≡ [] → (x : T) → Contains xs x → Contains others x
  none_missing others xs none x there = by (list_any (same x) others) refl
    where
      by : (b : Bool) → list_any (same x) others ≡ b → Contains others x
      by true found = (is_member-Decides decides others x).0 found
      by false found =
          let missing : Contains (without same others xs) x = Contains-filter (λ y. not (list_any (same y) others)) xs x there (ap not found) in
          absurd (Contains-nil x (subst (λ zs. Contains zs x) none missing))

  -- two lists that rise and aren't the same: one has an item that the other lacks
  pub differing : (order : T → T → Ordering) → IsTotalOrder order → (xs ys : List T) → IsStrictlySortedBy order xs → IsStrictlySortedBy order ys
      → xs ≢ ys → (x : T) × (Contains (without same xs ys) x ⊎ Contains (without same ys xs) x)
  differing order total xs ys rise rise_too differ = by (without same xs ys) refl (without same ys xs) refl
    where
      by : (came : List T) → without same xs ys ≡ came → (went : List T) → without same ys xs ≡ went → (x : T) × (Contains (without same xs ys) x ⊎ Contains (without same ys xs) x)
      by (x ∷ came) is went also = (x, inl (subst (λ zs. Contains zs x) (sym is) (Contains-head x came)))
      by [] is (x ∷ went) also = (x, inr (subst (λ zs. Contains zs x) (sym also) (Contains-head x went)))
      by [] is [] also =
          absurd (differ (same_items order total xs ys rise rise_too (none_missing ys xs also) (none_missing xs ys is)))
