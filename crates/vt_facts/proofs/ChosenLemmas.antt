-- What is chosen from a list by `filter_map` and `flat_map`: its items, and that they rise. What a `filter` keeps.
use Rattle.std.proofs.Common.{◌≡◌, List, [], ◌∷◌, ◌++◌, map, refl, sym, ap, subst, ◌∙◌, inl, inr, Bool, true, false, cond}
use Rattle.std.specs.Prelude.{◌&&◌, Contains, find, filter, Option, Some, None, option_map}
use Rattle.std.specs.List.{filter_map, flat_map, cons_option}
use Rattle.std.specs.List.Sorted.{IsStrictlySortedBy}
use Rattle.std.specs.declared.cmp.Ordering.{Ordering}
use Rattle.std.specs.declared.cmp.Ordering.TheVariants.{Less}
use Rattle.std.proofs.lemmas.List.Elements.{Contains-append_left, Contains-append_right, Contains-append_cases}
use Rattle.vt_facts.proofs.MemberLemmas.{Contains-nil, Contains-head, Contains-behind, Contains-cons_cases}
use Rattle.vt_facts.proofs.RisingLemmas.{rises-none, rises-cons, first_below, rest_rises}

-- ---- the items

module _ {X Y : Type 0} where
  -- what an item gives stands among what all give
  pub Contains-flat_map : (f : X → List Y) (xs : List X) (x : X) (y : Y) → Contains xs x → Contains (f x) y → Contains (flat_map f xs) y
  Contains-flat_map f [] x y there of = absurd (Contains-nil x there)
  Contains-flat_map f (w ∷ ws) x y there of = elim (Contains-cons_cases w x ws there) [
    | inl is ↦ Contains-append_left (f w) (flat_map f ws) y (subst (λ z. Contains (f z) y) (sym is) of)
    | inr later ↦ Contains-append_right (f w) (flat_map f ws) y (Contains-flat_map f ws x y later of)
  ]

  -- and what stands there some item gives
  pub Contains-from_flat_map : (f : X → List Y) (xs : List X) (y : Y) → Contains (flat_map f xs) y → (x : X) × Contains xs x × Contains (f x) y
  Contains-from_flat_map f [] y there = absurd (Contains-nil y there)
  Contains-from_flat_map f (w ∷ ws) y there = elim (Contains-append_cases (f w) (flat_map f ws) y there) [
    | inl of ↦ (w, Contains-head w ws, of)
    | inr later ↦ let rest = Contains-from_flat_map f ws y later in (rest.0, Contains-behind w rest.0 ws rest.1, rest.2)
  ]

  -- the same where an item gives one or none
  pub Contains-filter_map : (f : X → Option Y) (xs : List X) (x : X) (y : Y) → Contains xs x → f x ≡ Some y → Contains (filter_map f xs) y
  Contains-filter_map f [] x y there of = absurd (Contains-nil x there)
  Contains-filter_map f (w ∷ ws) x y there of = elim (Contains-cons_cases w x ws there) [
    | inl is ↦ let e : f w ≡ Some y = ap f is ∙ of in rw e (Contains-head y (filter_map f ws))
    | inr later ↦ elim (f w) as (λ r. Contains (cons_option r (filter_map f ws)) y) [
      | None ↦ Contains-filter_map f ws x y later of
      | Some z ↦ Contains-behind z y (filter_map f ws) (Contains-filter_map f ws x y later of)
    ]
  ]

  pub Contains-from_filter_map : (f : X → Option Y) (xs : List X) (y : Y) → Contains (filter_map f xs) y → (x : X) × Contains xs x × (f x ≡ Some y)
  Contains-from_filter_map f [] y there = absurd (Contains-nil y there)
  Contains-from_filter_map f (w ∷ ws) y there = by (Contains-from_filter_map f ws y) (f w) refl there
    where
      by : (Contains (filter_map f ws) y → (x : X) × Contains ws x × (f x ≡ Some y))
          → (r : Option Y) → f w ≡ r → Contains (cons_option r (filter_map f ws)) y → (x : X) × Contains (w ∷ ws) x × (f x ≡ Some y)
      by rest None e there = let found = rest there in (found.0, Contains-behind w found.0 ws found.1, found.2)
      by rest (Some z) e there = elim (Contains-cons_cases z y (filter_map f ws) there) [
        | inl is ↦ (w, Contains-head w ws, e ∙ ap Some is)
        | inr later ↦ let found = rest later in (found.0, Contains-behind w found.0 ws found.1, found.2)
      ]

  -- ---- that they rise

  -- what an item gives is below what a later item gives
  module _ (R : X → X → Ordering) (S : Y → Y → Ordering) where
    -- one list after another
    rises-append : (ys zs : List Y) → IsStrictlySortedBy S ys → IsStrictlySortedBy S zs → ((y z : Y) → Contains ys y → Contains zs z → S y z ≡ Less)
        → IsStrictlySortedBy S (ys ++ zs)
    rises-append [] zs first second below = second
    rises-append (y ∷ ys) zs first second below =
        rises-cons S y (ys ++ zs) below_all (rises-append ys zs (rest_rises S y ys first) second (λ w z there later. below w z (Contains-behind y w ys there) later))
      where
        below_all : (z : Y) → Contains (ys ++ zs) z → S y z ≡ Less
        below_all z there = elim (Contains-append_cases ys zs z there) [
          | inl own ↦ first_below S y ys first z own
          | inr later ↦ below y z (Contains-head y ys) later
        ]

    pub rises-flat_map : (f : X → List Y) (xs : List X) → IsStrictlySortedBy R xs → ((x : X) → Contains xs x → IsStrictlySortedBy S (f x))
        → ((w x : X) (y z : Y) → R w x ≡ Less → Contains (f w) y → Contains (f x) z → S y z ≡ Less) → IsStrictlySortedBy S (flat_map f xs)
    rises-flat_map f [] rise each below = rises-none S
    rises-flat_map f (w ∷ ws) rise each below =
        rises-append (f w) (flat_map f ws) (each w (Contains-head w ws)) (rises-flat_map f ws (rest_rises R w ws rise) (λ x there. each x (Contains-behind w x ws there)) below) below_rest
      where
        below_rest : (y z : Y) → Contains (f w) y → Contains (flat_map f ws) z → S y z ≡ Less
        below_rest y z own later = let found = Contains-from_flat_map f ws z later in below w found.0 y z (first_below R w ws rise found.0 found.1) own found.2

    pub rises-filter_map : (f : X → Option Y) (xs : List X) → IsStrictlySortedBy R xs
        → ((w x : X) (y z : Y) → R w x ≡ Less → f w ≡ Some y → f x ≡ Some z → S y z ≡ Less) → IsStrictlySortedBy S (filter_map f xs)
    rises-filter_map f [] rise below = rises-none S
    rises-filter_map f (w ∷ ws) rise below = by (rises-filter_map f ws (rest_rises R w ws rise) below) (f w) refl
      where
        by : IsStrictlySortedBy S (filter_map f ws) → (r : Option Y) → f w ≡ r → IsStrictlySortedBy S (cons_option r (filter_map f ws))
        by rest None e = rest
        by rest (Some y) e = rises-cons S y (filter_map f ws) (λ z later. let found = Contains-from_filter_map f ws z later in below w found.0 y z (first_below R w ws rise found.0 found.1) e found.2) rest

-- ---- after a change of each item

module _ {X Y Z : Type 0} where
  pub filter_map-map : (f : X → Y) (g : Y → Option Z) (xs : List X) → filter_map g (map f xs) ≡ filter_map (λ x. g (f x)) xs
  filter_map-map f g [] = refl
  filter_map-map f g (x ∷ xs) = ap (cons_option (g (f x))) (filter_map-map f g xs)

module _ {X Y : Type 0} where
  -- functions that agree at each item choose the same
  pub filter_map-agree : (f g : X → Option Y) (xs : List X) → ((x : X) → Contains xs x → f x ≡ g x) → filter_map f xs ≡ filter_map g xs
  filter_map-agree f g [] same = refl
  filter_map-agree f g (x ∷ xs) same = rw (same x (Contains-head x xs)) (ap (cons_option (g x)) (filter_map-agree f g xs (λ y there. same y (Contains-behind x y xs there))))

  pub flat_map-agree : (f g : X → List Y) (xs : List X) → ((x : X) → Contains xs x → f x ≡ g x) → flat_map f xs ≡ flat_map g xs
  flat_map-agree f g [] same = refl
  flat_map-agree f g (x ∷ xs) same = rw (same x (Contains-head x xs)) (ap (λ ys. g x ++ ys) (flat_map-agree f g xs (λ y there. same y (Contains-behind x y xs there))))

  -- a search among changed items
  pub find-map : (p : Y → Bool) (f : X → Y) (xs : List X) → find p (map f xs) ≡ option_map f (find (λ x. p (f x)) xs)
  find-map p f [] = refl
  find-map p f (x ∷ xs) = elim (p (f x)) as (λ b. cond b (Some (f x)) (find p (map f xs)) ≡ option_map f (cond b (Some x) (find (λ y. p (f y)) xs))) [
    | true ↦ refl
    | false ↦ find-map p f xs
  ]

-- tests that agree find the same
pub find-agree : {X : Type 0} (p q : X → Bool) (xs : List X) → ((x : X) → p x ≡ q x) → find p xs ≡ find q xs
find-agree p q xs same = λ i. find (λ x. same x i) xs

-- ---- what a filter keeps

module _ {X : Type 0} where
  -- one that all pass keeps all
  pub filter-all : (p : X → Bool) (xs : List X) → ((x : X) → Contains xs x → p x ≡ true) → filter p xs ≡ xs
  filter-all p [] all = refl
  filter-all p (x ∷ xs) all = rw (all x (Contains-head x xs)) (ap (λ ys. x ∷ ys) (filter-all p xs (λ y there. all y (Contains-behind x y xs there))))

  -- tests that agree on the items keep the same
  pub filter-agree : (p q : X → Bool) (xs : List X) → ((x : X) → Contains xs x → p x ≡ q x) → filter p xs ≡ filter q xs
  filter-agree p q [] same = refl
  filter-agree p q (x ∷ xs) same =
      ap (λ b. cond b (x ∷ filter p xs) (filter p xs)) (same x (Contains-head x xs))
      ∙ ap (λ rest. cond (q x) (x ∷ rest) rest) (filter-agree p q xs (λ y there. same y (Contains-behind x y xs there)))

  -- one that none passes keeps none
  pub filter-none : (p : X → Bool) (xs : List X) → ((x : X) → Contains xs x → p x ≡ false) → filter p xs ≡ []
  filter-none p [] none = refl
  filter-none p (x ∷ xs) none =
      ap (λ b. cond b (x ∷ filter p xs) (filter p xs)) (none x (Contains-head x xs))
      ∙ filter-none p xs (λ y there. none y (Contains-behind x y xs there))

  -- one filter after another keeps what passes both
  pub filter-filter : (p q : X → Bool) (xs : List X) → filter p (filter q xs) ≡ filter (λ x. q x && p x) xs
  filter-filter p q [] = refl
  filter-filter p q (x ∷ xs) = elim (q x) as (λ b. filter p (cond b (x ∷ filter q xs) (filter q xs)) ≡ cond (b && p x) (x ∷ filter (λ y. q y && p y) xs) (filter (λ y. q y && p y) xs)) [
    | true ↦ ap (λ rest. cond (p x) (x ∷ rest) rest) (filter-filter p q xs)
    | false ↦ filter-filter p q xs
  ]
