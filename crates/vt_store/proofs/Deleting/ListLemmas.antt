-- Lists: what stands in one that is changed item by item, joined or filtered, and lists without repeats.
use Rattle.std.proofs.Common.{◌≡◌, ℕ, List, [], ◌∷◌, ◌++◌, map, refl, ap, sym, subst, ◌∙◌, inl, inr, Bool, true, false, cond}
use Rattle.std.specs.Prelude.{Contains, filter, find, Option, None, Some}
use Rattle.std.specs.List.{flat_map}
use Rattle.std.specs.List.Sorted.{IsStrictlySortedBy}
use Rattle.std.proofs.lemmas.Bool.{false≢true}
use Rattle.std.specs.Option.{option_to_list}
use Rattle.std.specs.Cmp.{IsTotalOrder}
use Rattle.std.specs.declared.cmp.Ordering.{Ordering}
use Rattle.std.specs.declared.cmp.Ordering.TheVariants.{Less}
use Rattle.std.proofs.lemmas.List.Elements.{Contains-append_right, Contains-append_cases, All-contains, All-from_recursion, recursion_from_All}
use Rattle.std.proofs.lemmas.Map.Keys.{sorted_tail}
use Rattle.vt_facts.proofs.MemberLemmas.{Contains-nil, Contains-head, Contains-behind, Contains-cons_cases, Contains-from_filter, All-from_contains, AreDifferent, Contains-from_map}
use Rattle.vt_facts.proofs.RisingLemmas.{first_below, not_below_itself}
use Rattle.vt_facts.proofs.ChosenLemmas.{Contains-from_flat_map}

-- ---- lists without repeats

-- no item comes twice
abbrev pub NoRepeats : {X : Type 0} → List X → Type 0
NoRepeats [] = Unit {0}
NoRepeats (x ∷ xs) = (Contains xs x → ⊥) × NoRepeats xs

-- at numbers
pub AreDifferent-NoRepeats : (xs : List ℕ) → NoRepeats xs → AreDifferent xs
AreDifferent-NoRepeats [] once = tt
AreDifferent-NoRepeats (x ∷ xs) once = (once.0, AreDifferent-NoRepeats xs once.1)

module _ {X : Type 0} where
  -- a list that rises has none
  pub NoRepeats-rising : (R : X → X → Ordering) → IsTotalOrder R → (xs : List X) → IsStrictlySortedBy R xs → NoRepeats xs
  NoRepeats-rising R order [] rise = tt
  NoRepeats-rising R order (x ∷ xs) rise = (λ there. not_below_itself R order x (first_below R x xs rise x there), NoRepeats-rising R order xs (sorted_tail R x xs rise))

  -- nor has what a filter leaves
  pub NoRepeats-filter : (p : X → Bool) (xs : List X) → NoRepeats xs → NoRepeats (filter p xs)
  NoRepeats-filter p [] once = tt
  NoRepeats-filter p (x ∷ xs) once = elim (p x) as (λ b. NoRepeats (cond b (x ∷ filter p xs) (filter p xs))) [
    | true ↦ (λ there. once.0 (Contains-from_filter p xs x there).0, NoRepeats-filter p xs once.1)
    | false ↦ NoRepeats-filter p xs once.1
  ]

  -- nor have two lists with no common item
  pub NoRepeats-append : (xs ys : List X) → NoRepeats xs → NoRepeats ys → ((x : X) → Contains xs x → Contains ys x → ⊥) → NoRepeats (xs ++ ys)
  NoRepeats-append [] ys first second apart = second
  NoRepeats-append (x ∷ xs) ys first second apart = (
    λ there. elim (Contains-append_cases xs ys x there) [ inl own ↦ first.0 own | inr other ↦ apart x (Contains-head x xs) other ],
    NoRepeats-append xs ys first.1 second (λ y own other. apart y (Contains-behind x y xs own) other),
  )

  -- and of two lists, one after the other, without repeats no item is in both
  pub apart-append : (xs ys : List X) → NoRepeats (xs ++ ys) → (x : X) → Contains xs x → Contains ys x → ⊥
  apart-append [] ys once x own other = Contains-nil x own
  apart-append (w ∷ ws) ys once x own other = elim (Contains-cons_cases w x ws own) [
    | inl is ↦ once.0 (subst (Contains (ws ++ ys)) (sym is) (Contains-append_right ws ys x other))
    | inr later ↦ apart-append ws ys once.1 x later other
  ]

module _ {X Y : Type 0} where
  -- nor has a list whose items are changed to different ones
  pub NoRepeats-map : (f : X → Y) (xs : List X) → ((x y : X) → Contains xs x → Contains xs y → f x ≡ f y → x ≡ y) → NoRepeats xs → NoRepeats (map f xs)
  NoRepeats-map f [] exact once = tt
  NoRepeats-map f (x ∷ xs) exact once = (
    λ there. let was = Contains-from_map f xs (f x) there in once.0 (subst (Contains xs) (exact was.0 x (Contains-behind x was.0 xs was.1) (Contains-head x xs) was.2) was.1),
    NoRepeats-map f xs (λ y z one other. exact y z (Contains-behind x y xs one) (Contains-behind x z xs other)) once.1,
  )

  -- nor has what items give, where none gives what another does
  pub NoRepeats-flat_map : (f : X → List Y) (xs : List X) → NoRepeats xs → ((x : X) → Contains xs x → NoRepeats (f x))
      → ((x y : X) (z : Y) → Contains xs x → Contains xs y → Contains (f x) z → Contains (f y) z → x ≡ y) → NoRepeats (flat_map f xs)
  NoRepeats-flat_map f [] once each apart = tt
  NoRepeats-flat_map f (x ∷ xs) once each apart = NoRepeats-append (f x) (flat_map f xs) (each x (Contains-head x xs))
      (NoRepeats-flat_map f xs once.1 (λ y there. each y (Contains-behind x y xs there)) (λ y z w one other. apart y z w (Contains-behind x y xs one) (Contains-behind x z xs other)))
      (λ z own later.
      let by = Contains-from_flat_map f xs z later in
      let is = apart x by.0 z (Contains-head x xs) (Contains-behind x by.0 xs by.1) own by.2 in
      once.0 (subst (Contains xs) (sym is) by.1))

-- ---- lists that rise

-- one whose items are changed, where those that rise go to what rises
pub rises-map : {X Y : Type 0} (R : X → X → Ordering) (S : Y → Y → Ordering) (f : X → Y) → ((x y : X) → R x y ≡ Less → S (f x) (f y) ≡ Less)
    → (xs : List X) → IsStrictlySortedBy R xs → IsStrictlySortedBy S (map f xs)
unfolding IsStrictlySortedBy
rises-map R S f keeps [] rise = tt
rises-map R S f keeps (x ∷ xs) rise = (
  recursion_from_All (λ z. S (f x) z ≡ Less) (map f xs) (All-from_contains (λ z. S (f x) z ≡ Less) (map f xs)
      (λ z there.
      let by = Contains-from_map f xs z there in
      subst (λ w. S (f x) w ≡ Less) by.2 (keeps x by.0 (All-contains (λ y. R x y ≡ Less) xs by.0 (All-from_recursion (λ y. R x y ≡ Less) xs rise.0) by.1)))),
  rises-map R S f keeps xs rise.1,
)

-- the same where only items of the list do
pub rises-map_there : {X Y : Type 0} (R : X → X → Ordering) (S : Y → Y → Ordering) (f : X → Y) (xs : List X)
    → ((x y : X) → Contains xs x → Contains xs y → R x y ≡ Less → S (f x) (f y) ≡ Less) → IsStrictlySortedBy R xs → IsStrictlySortedBy S (map f xs)
unfolding IsStrictlySortedBy
rises-map_there R S f [] keeps rise = tt
rises-map_there R S f (x ∷ xs) keeps rise = (
  recursion_from_All (λ z. S (f x) z ≡ Less) (map f xs) (All-from_contains (λ z. S (f x) z ≡ Less) (map f xs)
      (λ z there.
      let by = Contains-from_map f xs z there in
      subst (λ w. S (f x) w ≡ Less) by.2 (keeps x by.0 (Contains-head x xs) (Contains-behind x by.0 xs by.1)
      (All-contains (λ y. R x y ≡ Less) xs by.0 (All-from_recursion (λ y. R x y ≡ Less) xs rise.0) by.1)))),
  rises-map_there R S f xs (λ y z one other. keeps y z (Contains-behind x y xs one) (Contains-behind x z xs other)) rise.1,
)

-- ---- filters

-- a list of one item or none rises
pub rises-option : {K : Type 0} (R : K → K → Ordering) (found : Option K) → IsStrictlySortedBy R (option_to_list found)
unfolding IsStrictlySortedBy
rises-option R None = tt
rises-option R (Some x) = (tt, tt)

-- a search among what a filter leaves, where each item that it may find stays
pub find-filter : {X : Type 0} (p q : X → Bool) (xs : List X) → ((x : X) → p x ≡ true → q x ≡ true) → find p (filter q xs) ≡ find p xs
find-filter p q [] stays = refl
find-filter {X} p q (x ∷ xs) stays = by (find-filter p q xs stays) (q x) refl
  where
    fails : q x ≡ false → (b : Bool) → p x ≡ b → cond b (Some x) (find p xs) ≡ find p xs
    fails e true passes = absurd (false≢true (sym e ∙ stays x passes))
    fails e false passes = refl

    by : find p (filter q xs) ≡ find p xs → (b : Bool) → q x ≡ b → find p (cond b (x ∷ filter q xs) (filter q xs)) ≡ cond (p x) (Some x) (find p xs)
    by rest true e = ap (λ r. cond (p x) (Some x) r) rest
    by rest false e = rest ∙ sym (fails e (p x) refl)
