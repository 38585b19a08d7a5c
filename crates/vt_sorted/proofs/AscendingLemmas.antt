-- What stands in an ascending list, and what an edit leaves of it.
use Rattle.std.proofs.Common.{◌≡◌, ℕ, zero, suc, ◌<◌, length, get_or, Bool, true, false, not, cond, ◌||◌, Option, Some, None, List, [], ◌∷◌, ◌++◌, refl, sym, ap, ◌∙◌, append_assoc, arith}
use mathlib.Core.Bool.{true≢false}
use Rattle.std.specs.declared.cmp.Ordering.{Ordering}
use Rattle.std.specs.declared.cmp.Ordering.TheVariants.{Less, Equal, Greater}
use Rattle.std.specs.List.{AllByRecursion, filter, find}
use Rattle.std.specs.List.Sorted.{IsStrictlySortedBy}
use Rattle.std.specs.Option.{option_or}
use Rattle.std.specs.Ordering.{eq_by_cmp, is_eq, is_lt, ordering_reverse}
use Rattle.std.specs.Cmp.{IsTotalOrder}
use Rattle.std.proofs.lemmas.Cmp.{tied_back, alike_right}
use Rattle.std.proofs.lemmas.List.{append-nil}
use Rattle.std.proofs.lemmas.List.Elements.{filter-append}
use Rattle.std.proofs.lemmas.List.Folds.{list_any-append, find-append}
use Rattle.vt_sorted.specs.Ascending.{has, items_below, items_from, with_item, without_item}
use Rattle.vt_sorted.specs.Inside.Pieces.{AllBelow, AllAbove}

-- what holds of each item holds of the one at a place
pub all_at : {X : Type 0} (P : X → Type 0) (xs : List X) (i : ℕ) (d : X) → AllByRecursion P xs → i < length xs → P (get_or xs i d)
all_at P [] i d a l = absurd (omega arith)
all_at P (x ∷ xs) zero d a l = a.0
all_at P (x ∷ xs) (suc i) d a l = all_at P xs i d a.1 (omega arith)

or_false : (a : Bool) → (a || false) ≡ a
or_false true = refl
or_false false = refl

-- where neither is true, the second isn't
or_right : (a : Bool) {b : Bool} → (a || b) ≡ false → b ≡ false
or_right true e = absurd (true≢false e)
or_right false e = e

or_None : {A : Type 0} (o : Option A) → option_or o None ≡ o
or_None None = refl
or_None (Some a) = refl

module _ {K : Type 0} (R : K → K → Ordering) where
  -- ---- what a test leaves of a list

  filter_all : (p : K → Bool) (xs : List K) → AllByRecursion (λ x. p x ≡ true) xs → filter p xs ≡ xs
  filter_all p [] a = refl
  filter_all p (x ∷ xs) a = rw a.0 (ap (λ zs. x ∷ zs) (filter_all p xs a.1))

  filter_none : (p : K → Bool) (xs : List K) → AllByRecursion (λ x. p x ≡ false) xs → filter p xs ≡ []
  filter_none p [] a = refl
  filter_none p (x ∷ xs) a = rw a.0 (filter_none p xs a.1)

  -- each item that is below q, or above it, answers a test alike
  below_answers : (f : Ordering → Bool) (b : Bool) → f Less ≡ b → (xs : List K) (q : K) → AllBelow R xs q → AllByRecursion (λ x. f (R x q) ≡ b) xs
  below_answers f b e [] q a = tt
  below_answers f b e (x ∷ xs) q a = (ap f a.0 ∙ e, below_answers f b e xs q a.1)

  -- ---- IsStrictlySortedBy

  pub sorted_none : IsStrictlySortedBy R []
  unfolding IsStrictlySortedBy
  sorted_none = tt

  pub sorted_cons : (x : K) (xs : List K) → AllAbove R xs x → IsStrictlySortedBy R xs → IsStrictlySortedBy R (x ∷ xs)
  unfolding IsStrictlySortedBy
  sorted_cons x xs b s = (b, s)

  pub head_below : (x : K) (xs : List K) → IsStrictlySortedBy R (x ∷ xs) → AllAbove R xs x
  unfolding IsStrictlySortedBy
  head_below x xs s = s.0

  pub tail_sorted : (x : K) (xs : List K) → IsStrictlySortedBy R (x ∷ xs) → IsStrictlySortedBy R xs
  unfolding IsStrictlySortedBy
  tail_sorted x xs s = s.1

  -- what is below each item isn't among them
  pub has-below : (q : K) (ys : List K) → AllAbove R ys q → has R ys q ≡ false
  has-below q [] b = refl
  has-below q (y ∷ ys) b = rw b.0 (has-below q ys b.1)

  -- ---- parts of an ascending list

  pub above-append_left : (q : K) (xs ys : List K) → AllAbove R (xs ++ ys) q → AllAbove R xs q
  above-append_left q [] ys a = tt
  above-append_left q (x ∷ xs) ys a = (a.0, above-append_left q xs ys a.1)

  pub above-append_right : (q : K) (xs ys : List K) → AllAbove R (xs ++ ys) q → AllAbove R ys q
  above-append_right q [] ys a = a
  above-append_right q (x ∷ xs) ys a = above-append_right q xs ys a.1

  pub sorted_left : (xs ys : List K) → IsStrictlySortedBy R (xs ++ ys) → IsStrictlySortedBy R xs
  sorted_left [] ys s = sorted_none
  sorted_left (x ∷ xs) ys s = sorted_cons x xs (above-append_left x xs ys (head_below x _ s)) (sorted_left xs ys (tail_sorted x _ s))

  pub sorted_right : (xs ys : List K) → IsStrictlySortedBy R (xs ++ ys) → IsStrictlySortedBy R ys
  sorted_right [] ys s = s
  sorted_right (x ∷ xs) ys s = sorted_right xs ys (tail_sorted x _ s)

  module _ (o : IsTotalOrder R) where
    pub above_above : (x y : K) (ys : List K) → R x y ≡ Less → AllAbove R ys y → AllAbove R ys x
    above_above x y [] l b = tt
    above_above x y (z ∷ ys) l b = (o.trans x y z l b.0, above_above x y ys l b.1)

    pub above_all : (q x : K) (xs : List K) → R q x ≡ Less → IsStrictlySortedBy R (x ∷ xs) → AllAbove R (x ∷ xs) q
    above_all q x xs l s = (l, above_above q x xs l (head_below x xs s))

    pub less_back : (x y : K) → R x y ≡ Greater → R y x ≡ Less
    less_back x y g = o.antisymm y x ∙ ap ordering_reverse g

    pub greater_back : (x y : K) → R x y ≡ Less → R y x ≡ Greater
    greater_back x y g = o.antisymm y x ∙ ap ordering_reverse g

    -- what stands before an item that isn't above q is below q
    pub below-before : (q y : K) (xs ys : List K) → IsStrictlySortedBy R (xs ++ (y ∷ ys)) → is_lt (R q y) ≡ false → AllBelow R xs q
    below-before q y [] ys s n = tt
    below-before q y (x ∷ xs) ys s n =
        let l : R x y ≡ Less = (above-append_right x xs (y ∷ ys) (head_below x _ s)).0 in
        let rest : AllBelow R xs q = below-before q y xs ys (tail_sorted x _ s) n in
        elim (R q y) as (λ r. R q y ≡ r → is_lt r ≡ false → R x q ≡ Less × AllBelow R xs q) [
          | Less ↦ λ _ f. cc
          | Equal ↦ λ e _. (alike_right o q y x e ∙ l, rest)
          | Greater ↦ λ g _. (o.trans x y q l (less_back q y g), rest)
        ] refl n

    -- ---- what stands between what is below and what is above

    above_answers : (f : Ordering → Bool) (b : Bool) → f Greater ≡ b → (xs : List K) (q : K) → AllAbove R xs q → AllByRecursion (λ x. f (R x q) ≡ b) xs
    above_answers f b e [] q a = tt
    above_answers f b e (x ∷ xs) q a = (ap f (greater_back q x a.0) ∙ e, above_answers f b e xs q a.1)

    pub items_below-below : (xs : List K) (q : K) → AllBelow R xs q → items_below R xs q ≡ xs
    items_below-below xs q a = filter_all (λ x. is_lt (R x q)) xs (below_answers is_lt true refl xs q a)

    pub items_below-above : (xs : List K) (q : K) → AllAbove R xs q → items_below R xs q ≡ []
    items_below-above xs q a = filter_none (λ x. is_lt (R x q)) xs (above_answers is_lt false refl xs q a)

    pub items_from-below : (xs : List K) (q : K) → AllBelow R xs q → items_from R xs q ≡ []
    items_from-below xs q a = filter_none (λ x. not (is_lt (R x q))) xs (below_answers (λ r. not (is_lt r)) false refl xs q a)

    pub items_from-above : (xs : List K) (q : K) → AllAbove R xs q → items_from R xs q ≡ xs
    items_from-above xs q a = filter_all (λ x. not (is_lt (R x q))) xs (above_answers (λ r. not (is_lt r)) true refl xs q a)

    pub without_item-below : (xs : List K) (q : K) → AllBelow R xs q → without_item R xs q ≡ xs
    without_item-below xs q a = filter_all (λ x. not (is_eq (R x q))) xs (below_answers (λ r. not (is_eq r)) true refl xs q a)

    pub without_item-above : (xs : List K) (q : K) → AllAbove R xs q → without_item R xs q ≡ xs
    without_item-above xs q a = filter_all (λ x. not (is_eq (R x q))) xs (above_answers (λ r. not (is_eq r)) true refl xs q a)

    pub has-above : (xs : List K) (q : K) → AllBelow R xs q → has R xs q ≡ false
    has-above [] q b = refl
    has-above (x ∷ xs) q b = rw (greater_back x q b.0) (has-above xs q b.1)

    pub find-above : (xs : List K) (q : K) → AllBelow R xs q → find (eq_by_cmp R q) xs ≡ None
    find-above [] q b = refl
    find-above (x ∷ xs) q b = rw (greater_back x q b.0) (find-above xs q b.1)

    pub find-below : (xs : List K) (q : K) → AllAbove R xs q → find (eq_by_cmp R q) xs ≡ None
    find-below [] q a = refl
    find-below (x ∷ xs) q a = rw a.0 (find-below xs q a.1)

    -- all that matters stands in xs: what comes before is below q, and what comes after is above it
    module _ (before xs after : List K) (q : K) (below : AllBelow R before q) (above : AllAbove R after q) where
      filter-between : (p : K → Bool) → filter p (before ++ (xs ++ after)) ≡ filter p before ++ (filter p xs ++ filter p after)
      filter-between p = filter-append p before (xs ++ after) ∙ ap (λ zs. filter p before ++ zs) (filter-append p xs after)

      pub has-between : has R (before ++ (xs ++ after)) q ≡ has R xs q
      has-between =
          list_any-append (eq_by_cmp R q) before (xs ++ after) ∙ ap (λ b. b || has R (xs ++ after) q) (has-above before q below)
          ∙ list_any-append (eq_by_cmp R q) xs after ∙ ap (λ b. has R xs q || b) (has-below q after above) ∙ or_false (has R xs q)

      pub find-between : find (eq_by_cmp R q) (before ++ (xs ++ after)) ≡ find (eq_by_cmp R q) xs
      find-between =
          find-append (eq_by_cmp R q) before (xs ++ after) ∙ ap (λ f. option_or f (find (eq_by_cmp R q) (xs ++ after))) (find-above before q below)
          ∙ find-append (eq_by_cmp R q) xs after ∙ ap (λ f. option_or (find (eq_by_cmp R q) xs) f) (find-below after q above) ∙ or_None (find (eq_by_cmp R q) xs)

      pub items_below-between : items_below R (before ++ (xs ++ after)) q ≡ before ++ items_below R xs q
      items_below-between =
          filter-between (λ x. is_lt (R x q)) ∙ ap (λ zs. zs ++ (items_below R xs q ++ items_below R after q)) (items_below-below before q below)
          ∙ ap (λ zs. before ++ (items_below R xs q ++ zs)) (items_below-above after q above) ∙ ap (λ zs. before ++ zs) (append-nil (items_below R xs q))

      pub items_from-between : items_from R (before ++ (xs ++ after)) q ≡ items_from R xs q ++ after
      items_from-between =
          filter-between (λ x. not (is_lt (R x q))) ∙ ap (λ zs. zs ++ (items_from R xs q ++ items_from R after q)) (items_from-below before q below)
          ∙ ap (λ zs. items_from R xs q ++ zs) (items_from-above after q above)

      pub without_item-between : without_item R (before ++ (xs ++ after)) q ≡ before ++ (without_item R xs q ++ after)
      without_item-between =
          filter-between (λ x. not (is_eq (R x q))) ∙ ap (λ zs. zs ++ (without_item R xs q ++ without_item R after q)) (without_item-below before q below)
          ∙ ap (λ zs. before ++ (without_item R xs q ++ zs)) (without_item-above after q above)

      pub with_item-between : with_item R (before ++ (xs ++ after)) q ≡ before ++ (with_item R xs q ++ after)
      with_item-between =
          ap (λ b. cond b (before ++ (xs ++ after)) (items_below R (before ++ (xs ++ after)) q ++ q ∷ items_from R (before ++ (xs ++ after)) q)) has-between
          ∙ elim (has R xs q) as (λ b. cond b (before ++ (xs ++ after)) (items_below R (before ++ (xs ++ after)) q ++ q ∷ items_from R (before ++ (xs ++ after)) q) ≡ before ++ (cond b xs (items_below R xs q ++ q ∷ items_from R xs q) ++ after)) [
            | true ↦ refl
            | false ↦ ap (λ zs. zs ++ q ∷ items_from R (before ++ (xs ++ after)) q) items_below-between
                ∙ ap (λ zs. (before ++ items_below R xs q) ++ q ∷ zs) items_from-between
                ∙ append_assoc before (items_below R xs q) (q ∷ (items_from R xs q ++ after))
                ∙ ap (λ zs. before ++ zs) (sym (append_assoc (items_below R xs q) (q ∷ items_from R xs q) after))
          ]

    -- ---- an edit leaves the list ascending

    pub above-filter : (p : K → Bool) (x : K) (ys : List K) → AllAbove R ys x → AllAbove R (filter p ys) x
    above-filter p x [] a = tt
    above-filter p x (y ∷ ys) a =
        elim (p y) as (λ b. AllAbove R (cond b (y ∷ filter p ys) (filter p ys)) x) [
          | true ↦ (a.0, above-filter p x ys a.1)
          | false ↦ above-filter p x ys a.1
        ]

    pub sorted-filter : (p : K → Bool) (xs : List K) → IsStrictlySortedBy R xs → IsStrictlySortedBy R (filter p xs)
    sorted-filter p [] s = s
    sorted-filter p (x ∷ xs) s =
        elim (p x) as (λ b. IsStrictlySortedBy R (cond b (x ∷ filter p xs) (filter p xs))) [
          | true ↦ sorted_cons x _ (above-filter p x xs (head_below x xs s)) (sorted-filter p xs (tail_sorted x xs s))
          | false ↦ sorted-filter p xs (tail_sorted x xs s)
        ]

    above-append : (x : K) (ys zs : List K) → AllAbove R ys x → AllAbove R zs x → AllAbove R (ys ++ zs) x
    above-append x [] zs a b = b
    above-append x (y ∷ ys) zs a b = (a.0, above-append x ys zs a.1 b)

    sorted-between : (xs : List K) (q : K) → IsStrictlySortedBy R xs → has R xs q ≡ false → IsStrictlySortedBy R (items_below R xs q ++ q ∷ items_from R xs q)
    sorted-between [] q s e = sorted_cons q [] tt sorted_none
    sorted-between (x ∷ xs) q s e =
        elim (R x q) as (λ r. R x q ≡ r → IsStrictlySortedBy R (items_below R (x ∷ xs) q ++ q ∷ items_from R (x ∷ xs) q)) [
          | Less ↦ λ l.
              let b : AllAbove R xs x = head_below x xs s in
              rw l
              (sorted_cons x _
              (above-append x (items_below R xs q) (q ∷ items_from R xs q) (above-filter _ x xs b) (l, above-filter _ x xs b))
              (sorted-between xs q (tail_sorted x xs s) (or_right (is_eq (R q x)) e)))
          | Equal ↦ λ l. absurd (true≢false (sym (ap (λ r. is_eq r || has R xs q) (tied_back o x q l)) ∙ e))
          | Greater ↦ λ g.
              let a : AllAbove R (x ∷ xs) q = above_all q x xs (less_back x q g) s in
              rw (items_below-above (x ∷ xs) q a) (rw (items_from-above (x ∷ xs) q a) (sorted_cons q (x ∷ xs) a s))
        ] refl

    pub sorted-with_item : (xs : List K) (q : K) → IsStrictlySortedBy R xs → IsStrictlySortedBy R (with_item R xs q)
    sorted-with_item xs q s =
        elim (has R xs q) as (λ b. has R xs q ≡ b → IsStrictlySortedBy R (cond b xs (items_below R xs q ++ q ∷ items_from R xs q))) [
          | true ↦ λ _. s
          | false ↦ λ e. sorted-between xs q s e
        ] refl

    pub sorted-without_item : (xs : List K) (q : K) → IsStrictlySortedBy R xs → IsStrictlySortedBy R (without_item R xs q)
    sorted-without_item xs q s = sorted-filter (λ x. not (is_eq (R x q))) xs s
