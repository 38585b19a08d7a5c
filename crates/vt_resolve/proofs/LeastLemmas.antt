-- The item that none is before: the first of a list in order, also where the list is told in another.
use Rattle.std.proofs.Common.{◌≡◌, Bool, true, false, not, ◌||◌, cond, List, [], ◌∷◌, Some, None, refl, sym, ap, subst, ◌∙◌, ◌⊎◌, inl, inr}
use mathlib.Core.Bool.{true≢false}
use Rattle.std.specs.Prelude.{Contains, filter, find, slice_get}
use Rattle.std.specs.declared.cmp.Ordering.{Ordering}
use Rattle.std.specs.declared.cmp.Ordering.TheVariants.{Less, Equal, Greater}
use Rattle.std.specs.List.{list_any}
use Rattle.std.specs.List.Sorted.{IsStrictlySortedBy}
use Rattle.std.specs.Ordering.{is_lt, nat_cmp, ordering_then}
use Rattle.std.specs.Cmp.{IsTotalOrder}
use Rattle.std.proofs.lemmas.Cmp.{tied_itself, nat_cmp_total, on_total, then_total}
use Rattle.std.proofs.lemmas.List.Kept.{IsStrictlySortedBy-filter}
use Rattle.std.proofs.lemmas.Map.Lookups.{CmpEqualImpliesEq}
use Rattle.vt_facts.proofs.MemberLemmas.{Contains-nil, Contains-head, Contains-behind, Contains-cons_cases, Contains-filter, Contains-from_filter, Contains-find, find-some}
use Rattle.vt_facts.proofs.RisingLemmas.{first_below}
use Rattle.vt_sorted.proofs.AscendingLemmas.{less_back, greater_back}
use Rattle.vt_resolve.specs.Choice.{is_preceded}
use Rattle.vt_resolve.specs.Inside.InOrder.{in_order}
use Rattle.vt_resolve.specs.Inside.EntryLaws.{then_second}
use Rattle.vt_resolve.proofs.InOrderLemmas.{in_order-ascends, into_order, out_of_order}

or_left : (a b : Bool) → (a || b) ≡ false → a ≡ false
or_left true b e = e
or_left false b e = refl

or_right : (a b : Bool) → (a || b) ≡ false → b ≡ false
or_right true b e = absurd (true≢false e)
or_right false b e = e

not_true : (b : Bool) → not b ≡ true → b ≡ false
not_true true e = absurd (true≢false (sym e))
not_true false e = refl

no_item : {X : Type 0} (x : X) → None ≡ Some x → ⊥
no_item x e = cc

module _ {K : Type 0} (test : K → Bool) where
  none_passes : (xs : List K) → ((f : K) → Contains xs f → test f ≡ false) → list_any test xs ≡ false
  none_passes [] none = refl
  none_passes (x ∷ xs) none = ap (λ b. b || list_any test xs) (none x (Contains-head x xs)) ∙ none_passes xs (λ f later. none f (Contains-behind x f xs later))

  fails_there : (xs : List K) (f : K) → list_any test xs ≡ false → Contains xs f → test f ≡ false
  fails_there [] f e c = absurd (Contains-nil f c)
  fails_there (x ∷ xs) f e c = by (fails_there xs f (or_right (test x) (list_any test xs) e)) (Contains-cons_cases x f xs c)
    where
      by : (Contains xs f → test f ≡ false) → (x ≡ f) ⊎ Contains xs f → test f ≡ false
      by rest (inl is) = subst (λ z. test z ≡ false) is (or_left (test x) (list_any test xs) e)
      by rest (inr later) = rest later

module _ {K : Type 0} (R : K → K → Ordering) (o : IsTotalOrder R) where
  tied : (x y : K) → is_lt (R x y) ≡ false → is_lt (R y x) ≡ false → R x y ≡ Equal
  tied x y a b = by (R x y) refl
    where
      by : (r : Ordering) → R x y ≡ r → R x y ≡ Equal
      by Less e = absurd (true≢false (sym (ap is_lt e) ∙ a))
      by Equal e = e
      by Greater e = absurd (true≢false (sym (ap is_lt (less_back R o x y e)) ∙ b))

  -- no item of an ascending list is before its first
  pub not_before_first : (x : K) (xs : List K) → IsStrictlySortedBy R (x ∷ xs) → (f : K) → Contains (x ∷ xs) f → is_lt (R f x) ≡ false
  not_before_first x xs s f c = by (Contains-cons_cases x f xs c)
    where
      by : (x ≡ f) ⊎ Contains xs f → is_lt (R f x) ≡ false
      by (inl is) = ap is_lt (subst (λ z. R z x ≡ Equal) is (tied_itself o x))
      by (inr later) = ap is_lt (greater_back R o x f (first_below R x xs s f later))

  -- an item that none is before is the one that is found
  pub least_is : CmpEqualImpliesEq R → (xs : List K) (x : K) → Contains xs x → ((f : K) → Contains xs f → is_lt (R f x) ≡ false)
      → find (λ e. not (is_preceded R xs e)) xs ≡ Some x
  least_is exact xs x c first =
      let test : K → Bool = λ e. not (is_preceded R xs e) in
      let passes : test x ≡ true = ap not (none_passes (λ f. is_lt (R f x)) xs first) in
      let found = find-some test xs x c passes in
      let other = Contains-find test xs found.0 found.1 in
      let none : is_preceded R xs found.0 ≡ false = not_true (is_preceded R xs found.0) other.1 in
      let same : found.0 ≡ x = exact found.0 x (tied found.0 x (first found.0 other.0) (fails_there (λ f. is_lt (R f found.0)) xs x none c)) in
      found.1 ∙ ap Some same

  -- of some items there is always one that none is before
  pub none_found : CmpEqualImpliesEq R → (xs : List K) → find (λ e. not (is_preceded R xs e)) xs ≡ None → xs ≡ []
  none_found exact [] e = refl
  none_found exact (x ∷ xs) e = by (in_order R (x ∷ xs)) refl
    where
      into : (f : K) → Contains (x ∷ xs) f → Contains (in_order R (x ∷ xs)) f
      into f c = into_order R R o exact o exact (x ∷ xs) f c

      by : (ys : List K) → in_order R (x ∷ xs) ≡ ys → x ∷ xs ≡ []
      by [] is = absurd (Contains-nil x (subst (λ l. Contains l x) is (into x (Contains-head x xs))))
      by (y ∷ ys) is =
          let there = out_of_order R R o exact o exact (x ∷ xs) y (subst (λ l. Contains l y) (sym is) (Contains-head y ys)) in
          let rises = subst (IsStrictlySortedBy R) is (in_order-ascends R o exact (x ∷ xs)) in
          absurd (no_item y (sym e ∙ least_is exact (x ∷ xs) y there (λ f c. not_before_first y ys rises f (subst (λ l. Contains l f) is (into f c)))))

-- ---- the first in one order, where the list is told in another

pub least-in_order : {K : Type 0} (R S : K → K → Ordering) (o : IsTotalOrder R) (exact : CmpEqualImpliesEq R) (os : IsTotalOrder S) (exact_s : CmpEqualImpliesEq S)
    (xs : List K) → IsStrictlySortedBy R xs → find (λ e. not (is_preceded R (in_order S xs) e)) (in_order S xs) ≡ slice_get xs 0
least-in_order R S o exact os exact_s [] s = refl
least-in_order R S o exact os exact_s (x ∷ xs) s =
    least_is R o exact (in_order S (x ∷ xs)) x (into_order R S o exact os exact_s (x ∷ xs) x (Contains-head x xs))
    (λ f c. not_before_first R o x xs s f (out_of_order R S o exact os exact_s (x ∷ xs) f c))

-- ---- first those that don't meet a test, and then the others

module _ {K : Type 0} (S : K → K → Ordering) (os : IsTotalOrder S) (exact_s : CmpEqualImpliesEq S) (passed : K → Bool) where
  abbrev pub turned : K → K → Ordering
  turned a b = ordering_then (nat_cmp (cond (passed a) 1 0) (cond (passed b) 1 0)) (S a b)

  pub turned_total : IsTotalOrder turned
  turned_total = then_total (on_total (λ (e : K). cond (passed e) 1 0) nat_cmp_total) os

  pub turned_exact : CmpEqualImpliesEq turned
  turned_exact a b e = exact_s a b (then_second _ _ e)

  -- of two items that the test doesn't tell apart
  same_round : (v : Bool) (a b : K) → passed a ≡ v → passed b ≡ v → turned a b ≡ S a b
  same_round true a b e f = ap (λ m. ordering_then (nat_cmp (cond m 1 0) (cond (passed b) 1 0)) (S a b)) e ∙ ap (λ m. ordering_then (nat_cmp 1 (cond m 1 0)) (S a b)) f
  same_round false a b e f = ap (λ m. ordering_then (nat_cmp (cond m 1 0) (cond (passed b) 1 0)) (S a b)) e ∙ ap (λ m. ordering_then (nat_cmp 0 (cond m 1 0)) (S a b)) f

  later_round : (a b : K) → passed a ≡ true → passed b ≡ false → turned a b ≡ Greater
  later_round a b e f = ap (λ m. ordering_then (nat_cmp (cond m 1 0) (cond (passed b) 1 0)) (S a b)) e ∙ ap (λ m. ordering_then (nat_cmp 1 (cond m 1 0)) (S a b)) f

  -- where the test is the same of all, the first of the list
  pub turn_same : (v : Bool) (xs : List K) → IsStrictlySortedBy S xs → ((f : K) → Contains xs f → passed f ≡ v)
      → find (λ e. not (is_preceded turned xs e)) xs ≡ slice_get xs 0
  turn_same v [] s all = refl
  turn_same v (x ∷ xs) s all =
      least_is turned turned_total turned_exact (x ∷ xs) x (Contains-head x xs)
      (λ f c. ap is_lt (same_round v f x (all f c) (all x (Contains-head x xs))) ∙ not_before_first S os x xs s f c)

  module _ (xs : List K) (s : IsStrictlySortedBy S xs) where
    kept_rises : (zs : List K) → filter (λ e. not (passed e)) xs ≡ zs → IsStrictlySortedBy S zs
    kept_rises zs is = subst (IsStrictlySortedBy S) is (IsStrictlySortedBy-filter S (λ e. not (passed e)) xs s)

    found_first : (z : K) (zs : List K) → filter (λ e. not (passed e)) xs ≡ z ∷ zs → find (λ e. not (is_preceded turned xs e)) xs ≡ Some z
    found_first z zs is = least_is turned turned_total turned_exact xs z from.0 (λ f c. before f c (passed f) refl)
      where
        from : Contains xs z × (not (passed z) ≡ true)
        from = Contains-from_filter (λ e. not (passed e)) xs z (subst (λ l. Contains l z) (sym is) (Contains-head z zs))

        before : (f : K) → Contains xs f → (v : Bool) → passed f ≡ v → is_lt (turned f z) ≡ false
        before f c true e = ap is_lt (later_round f z e (not_true (passed z) from.1))
        before f c false e =
            ap is_lt (same_round false f z e (not_true (passed z) from.1))
            ∙ not_before_first S os z zs (kept_rises (z ∷ zs) is) f (subst (λ l. Contains l f) is (Contains-filter (λ e. not (passed e)) xs f c (ap not e)))

    -- one that doesn't meet the test is left: the first of these
    pub turn_found : (x : K) → slice_get (filter (λ e. not (passed e)) xs) 0 ≡ Some x → find (λ e. not (is_preceded turned xs e)) xs ≡ Some x
    turn_found x e = by (filter (λ e. not (passed e)) xs) refl e
      where
        by : (zs : List K) → filter (λ e. not (passed e)) xs ≡ zs → slice_get zs 0 ≡ Some x → find (λ e. not (is_preceded turned xs e)) xs ≡ Some x
        by [] is none = absurd (no_item x none)
        by (z ∷ zs) is some = found_first z zs is ∙ some

    -- all meet it: the first of all
    pub turn_none : slice_get (filter (λ e. not (passed e)) xs) 0 ≡ None → find (λ e. not (is_preceded turned xs e)) xs ≡ slice_get xs 0
    turn_none e = turn_same true xs s (λ f c. all f c (passed f) refl (filter (λ e. not (passed e)) xs) refl e)
      where
        all : (f : K) → Contains xs f → (v : Bool) → passed f ≡ v → (zs : List K) → filter (λ e. not (passed e)) xs ≡ zs → slice_get zs 0 ≡ None → passed f ≡ true
        all f c true here zs is none = here
        all f c false here [] is none = absurd (Contains-nil f (subst (λ l. Contains l f) is (Contains-filter (λ e. not (passed e)) xs f c (ap not here))))
        all f c false here (z ∷ zs) is none = absurd (no_item z (sym none))
