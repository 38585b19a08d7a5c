-- Members of an object that go in one after the other, in any order of key.
use Rattle.std.proofs.Common.{◌≡◌, ℕ, List, [], ◌∷◌, map, refl, ap, subst, ◌∙◌, ◌⊎◌, inl, inr}
use Rattle.std.specs.Prelude.{Contains, Option, Some, option_map, option_and_then}
use Rattle.std.specs.List.Sorted.{IsStrictlySortedBy}
use Rattle.std.specs.BTreeSet.{insert_key}
use Rattle.std.specs.Cmp.{IsTotalOrder}
use Rattle.std.specs.Cmp.Lexicographic.{slice_cmp}
use Rattle.std.specs.Ordering.{nat_cmp, match_ordering}
use Rattle.std.specs.declared.cmp.Ordering.{Ordering}
use Rattle.std.specs.declared.cmp.Ordering.TheVariants.{Less, Equal, Greater}
use Rattle.std.proofs.lemmas.Cmp.{on_total, nat_list_cmp_total}
use Rattle.serde_json.specs.Data.{Data, Members, no_members, member, put}
use Rattle.vt_json.specs.Shape.{entries_in}
use Rattle.vt_facts.proofs.MemberLemmas.{Contains-head, Contains-behind, Contains-nil, Contains-cons_cases, Contains-insert_key_cases, Contains-insert_key_old}
use Rattle.vt_facts.proofs.OrderedLemmas.{IsStrictlySortedBy-insert_key}
use Rattle.vt_dump_law.proofs.Lists.{Contains-insert_key_here}

-- ---- items put in one after the other

module _ {K : Type 0} (R : K → K → Ordering) where
  abbrev pub placed : List K → List K → List K
  placed acc [] = acc
  placed acc (x ∷ xs) = placed (insert_key R acc x) xs

  -- what stands afterwards stood before, or was put in
  pub Contains-placed_cases : (acc xs : List K) (x : K) → Contains (placed acc xs) x → Contains acc x ⊎ Contains xs x
  Contains-placed_cases acc [] x there = inl there
  Contains-placed_cases acc (y ∷ xs) x there = by (Contains-placed_cases (insert_key R acc y) xs x there)
    where
      first : Contains (insert_key R acc y) x → Contains acc x ⊎ Contains (y ∷ xs) x
      first there = elim (Contains-insert_key_cases R y acc x there) [ inl old ↦ inl old | inr is ↦ inr (subst (Contains (y ∷ xs)) is (Contains-head y xs)) ]

      by : Contains (insert_key R acc y) x ⊎ Contains xs x → Contains acc x ⊎ Contains (y ∷ xs) x
      by (inl early) = first early
      by (inr later) = inr (Contains-behind y x xs later)

  -- what stood before stands still
  pub Contains-placed_old : (acc xs : List K) (x : K) → Contains acc x → Contains (placed acc xs) x
  Contains-placed_old acc [] x there = there
  Contains-placed_old acc (y ∷ xs) x there = Contains-placed_old (insert_key R acc y) xs x (Contains-insert_key_old R y acc x there)

  -- what is put in stands, where items that the order doesn't tell apart are the same
  module _ (P : K → Type 0) (exact : (x y : K) → P x → P y → R x y ≡ Equal → x ≡ y) where
    pub among-insert_key : (acc : List K) (y : K) → ((x : K) → Contains acc x → P x) → P y → (x : K) → Contains (insert_key R acc y) x → P x
    among-insert_key acc y first of x there = elim (Contains-insert_key_cases R y acc x there) [ inl old ↦ first x old | inr is ↦ subst P is of ]

    pub Contains-placed_new : (acc xs : List K) → ((x : K) → Contains acc x → P x) → ((x : K) → Contains xs x → P x) → (x : K) → Contains xs x → Contains (placed acc xs) x
    Contains-placed_new acc [] first each x there = absurd (Contains-nil x there)
    Contains-placed_new acc (y ∷ xs) first each x there =
        by (Contains-placed_new (insert_key R acc y) xs (among-insert_key acc y first (each y (Contains-head y xs))) (λ z among. each z (Contains-behind y z xs among)) x)
        (Contains-placed_old (insert_key R acc y) xs y (Contains-insert_key_here R y acc (λ z among same. exact y z (each y (Contains-head y xs)) (first z among) same)))
        (Contains-cons_cases y x xs there)
      where
        by : (Contains xs x → Contains (placed (insert_key R acc y) xs) x) → Contains (placed (insert_key R acc y) xs) y → (y ≡ x) ⊎ Contains xs x → Contains (placed (insert_key R acc y) xs) x
        by rest here (inl is) = subst (Contains (placed (insert_key R acc y) xs)) is here
        by rest here (inr later) = rest later

  -- they rise
  pub IsStrictlySortedBy-placed : IsTotalOrder R → (acc xs : List K) → IsStrictlySortedBy R acc → IsStrictlySortedBy R (placed acc xs)
  IsStrictlySortedBy-placed order acc [] rise = rise
  IsStrictlySortedBy-placed order acc (x ∷ xs) rise = IsStrictlySortedBy-placed order (insert_key R acc x) xs (IsStrictlySortedBy-insert_key R order acc x rise)

-- ---- members

module _ {K : Type 0} (key : K → List ℕ) where
  -- items by their keys
  abbrev pub by_key : K → K → Ordering
  by_key x y = slice_cmp nat_cmp (key x) (key y)

  pub by_key_total : IsTotalOrder by_key
  by_key_total = on_total key nat_list_cmp_total

  module _ (shown : K → Data) where
    -- a member for each item
    abbrev pub spelled : List K → Members
    spelled [] = no_members
    spelled (x ∷ xs) = member (key x) (shown x) (spelled xs)

    -- one more
    pub put-spelled : (x : K) (xs : List K) → ((y : K) → Contains xs y → by_key x y ≡ Equal → x ≡ y) → put (key x) (shown x) (spelled xs) ≡ spelled (insert_key by_key xs x)
    put-spelled x [] same = refl
    put-spelled x (y ∷ xs) same = by (put-spelled x xs (λ z there. same z (Contains-behind y z xs there))) (by_key x y) refl
      where
        by : put (key x) (shown x) (spelled xs) ≡ spelled (insert_key by_key xs x) → (r : Ordering) → by_key x y ≡ r
            → match_ordering r (member (key x) (shown x) (member (key y) (shown y) (spelled xs))) (member (key y) (shown x) (spelled xs)) (member (key y) (shown y) (put (key x) (shown x) (spelled xs)))
            ≡ spelled (match_ordering r (x ∷ y ∷ xs) (y ∷ xs) (y ∷ insert_key by_key xs x))
        by rest Less e = refl
        by rest Equal e = ap (λ z. member (key y) (shown z) (spelled xs)) (same y (Contains-head y xs) e)
        by rest Greater e = ap (member (key y) (shown y)) rest

    -- the entries of such an object
    pub entries_in-spelled : {A : Type 0} (shape : Data → Option A) (f : K → A) (xs : List K) → ((x : K) → Contains xs x → shape (shown x) ≡ Some (f x))
        → entries_in shape (spelled xs) ≡ Some (map (λ x. (key x, f x)) xs)
    entries_in-spelled shape f [] each = refl
    entries_in-spelled {A} shape f (x ∷ xs) each =
        ap (λ (o : Option A). option_and_then {U = List (List ℕ × A)} (λ entry. option_map (λ entries. entry ∷ entries) (entries_in shape (spelled xs))) (option_map (λ a. (key x, a)) o)) (each x (Contains-head x xs))
        ∙ ap (option_map (λ entries. (key x, f x) ∷ entries)) (entries_in-spelled shape f xs (λ y there. each y (Contains-behind x y xs there)))
