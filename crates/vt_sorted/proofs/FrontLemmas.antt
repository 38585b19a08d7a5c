-- Where a front of ascending items ends, in a list and in pieces.
use Rattle.std.proofs.Common.{◌≡◌, ℕ, zero, suc, ◌<◌, ◌≤◌, ◌-◌, length, get_or, take, drop, Bool, true, false, not, List, [], ◌∷◌, ◌++◌, refl, sym, ap, ◌∙◌, arith, subst, drop-cons}
use mathlib.Core.Bool.{true≢false}
use Rattle.std.specs.declared.cmp.Ordering.{Ordering}
use Rattle.std.specs.declared.cmp.Ordering.TheVariants.{Less, Equal, Greater}
use Rattle.std.specs.List.{AllByRecursion}
use Rattle.std.specs.List.Sorted.{IsStrictlySortedBy}
use Rattle.std.specs.Ordering.{is_lt}
use Rattle.std.specs.Cmp.{IsTotalOrder}
use Rattle.std.proofs.lemmas.List.{take-append-drop, drop-drop}
use Rattle.std.proofs.lemmas.List.Elements.{filter-append}
use Rattle.vt_sorted.specs.Ascending.{items_after}
use Rattle.vt_sorted.specs.Inside.Fronts.{up_to}
use Rattle.vt_sorted.specs.Inside.Places.{AllMeet, NoneMeet, EndsAt}
use Rattle.vt_sorted.specs.Inside.Pieces.{joined, begins_after, IsFilled, AllBelow, AllAbove, IsPlace, IsEndPlace}
use Rattle.vt_sorted.proofs.AscendingLemmas.{head_below, tail_sorted, above-append_right, sorted_right, below-before, all_at}
use Rattle.vt_sorted.proofs.PieceLemmas.{joined_parts, joined_around, filled_at}

not_false : (b : Bool) → not b ≡ false → b ≡ true
not_false true e = refl
not_false false e = absurd (true≢false e)

not_true : (b : Bool) → not b ≡ true → b ≡ false
not_true true e = absurd (true≢false (sym e))
not_true false e = refl

-- ---- what is left after a front

module _ {T : Type 0} (test : T → Bool) where
  after-meet : (xs : List T) → AllMeet test xs → items_after test xs ≡ []
  after-meet [] a = refl
  after-meet (x ∷ xs) a = rw a.0 (after-meet xs a.1)

  after-none : (xs : List T) → NoneMeet test xs → items_after test xs ≡ xs
  after-none [] a = refl
  after-none (x ∷ xs) a = rw a.0 (ap (λ zs. x ∷ zs) (after-none xs a.1))

  after-append : (xs ys : List T) → AllMeet test xs → items_after test (xs ++ ys) ≡ items_after test ys
  after-append xs ys a = filter-append (λ x. not (test x)) xs ys ∙ ap (λ zs. zs ++ items_after test ys) (after-meet xs a)

  pub items_after-end : (xs : List T) (i : ℕ) → AllMeet test (take i xs) → NoneMeet test (drop i xs) → items_after test xs ≡ drop i xs
  items_after-end xs i before after =
      ap (items_after test) (sym (take-append-drop i xs)) ∙ after-append (take i xs) (drop i xs) before ∙ after-none (drop i xs) after

  pub items_after-place : (cs : List (List T)) (j at : ℕ) → IsEndPlace test cs j → EndsAt test (get_or cs j []) at → items_after test (joined cs) ≡ drop at (get_or cs j []) ++ joined (drop (suc j) cs)
  items_after-place cs j at p e =
      let c = get_or cs j [] in
      let later = joined (drop (suc j) cs) in
      ap (items_after test) (joined_around cs j p.in_range) ∙ after-append (joined (take j cs)) (c ++ later) p.before
      ∙ filter-append (λ x. not (test x)) c later
      ∙ ap (λ zs. zs ++ items_after test later) e.left ∙ ap (λ zs. drop at c ++ zs) (after-none later p.after)

-- ---- what an item says of those before it and after it

all-append_right : {X : Type 0} (P : X → Type 0) (xs ys : List X) → AllByRecursion P (xs ++ ys) → AllByRecursion P ys
all-append_right P [] ys a = a
all-append_right P (x ∷ xs) ys a = all-append_right P xs ys a.1

-- what holds of all pieces from one on holds of those from a later one on
pub all_later : {T : Type 0} (P : T → Type 0) (cs : List (List T)) (k j : ℕ) → k ≤ j → AllByRecursion P (joined (drop k cs)) → AllByRecursion P (joined (drop j cs))
all_later P cs k j l a =
    let far : drop (j - k) (drop k cs) ≡ drop j cs = drop-drop (j - k) k cs ∙ ap (λ n. drop n cs) (omega arith) in
    let parts : joined (drop k cs) ≡ joined (take (j - k) (drop k cs)) ++ joined (drop j cs) = joined_parts (drop k cs) (j - k) ∙ ap (λ ds. joined (take (j - k) (drop k cs)) ++ joined ds) far in
    all-append_right P (joined (take (j - k) (drop k cs))) (joined (drop j cs)) (subst (AllByRecursion P) parts a)

module _ {T : Type 0} (R : T → T → Ordering) (test : T → Bool) (closed : (x y : T) → R x y ≡ Less → test y ≡ true → test x ≡ true) where
  meet-before : (y : T) (xs ys : List T) → IsStrictlySortedBy R (xs ++ (y ∷ ys)) → test y ≡ true → AllMeet test xs
  meet-before y [] ys s e = tt
  meet-before y (x ∷ xs) ys s e = (closed x y (above-append_right R x xs (y ∷ ys) (head_below R x _ s)).0 e, meet-before y xs ys (tail_sorted R x _ s) e)

  none-above : (y : T) (ys : List T) → AllAbove R ys y → test y ≡ false → NoneMeet test ys
  none-above y [] a n = tt
  none-above y (z ∷ ys) a n =
      let here : test z ≡ false = elim (test z) as (λ b. test z ≡ b → b ≡ false) [
        | true ↦ λ e. sym (closed y z a.0 e) ∙ n
        | false ↦ λ e. refl
      ] refl in
      (here, none-above y ys a.1 n)

  none-from : (y : T) (ys : List T) → IsStrictlySortedBy R (y ∷ ys) → test y ≡ false → NoneMeet test (y ∷ ys)
  none-from y ys s n = (n, none-above y ys (head_below R y ys s) n)

  -- ---- a step of a search in a list

  pub meet_to : (xs : List T) (i : ℕ) (d : T) → IsStrictlySortedBy R xs → i < length xs → test (get_or xs i d) ≡ true → AllMeet test (take (suc i) xs)
  meet_to [] i d s l e = absurd (omega arith)
  meet_to (x ∷ xs) zero d s l e = (e, tt)
  meet_to (x ∷ xs) (suc i) d s l e =
      (closed x (get_or xs i d) (all_at (λ y. R x y ≡ Less) xs i d (head_below R x xs s) (omega arith)) e, meet_to xs i d (tail_sorted R x xs s) (omega arith) e)

  pub none_from : (xs : List T) (i : ℕ) (d : T) → IsStrictlySortedBy R xs → i < length xs → test (get_or xs i d) ≡ false → NoneMeet test (drop i xs)
  none_from [] i d s l e = absurd (omega arith)
  none_from (x ∷ xs) zero d s l e = none-from x xs s e
  none_from (x ∷ xs) (suc i) d s l e = none_from xs i d (tail_sorted R x xs s) (omega arith) e

  -- ---- a step of a search among the first items of pieces

  earlier_meet : (b c a : List T) → IsStrictlySortedBy R (b ++ (c ++ a)) → 1 ≤ length c → begins_after test c ≡ false → AllMeet test b
  earlier_meet b [] a s l e = absurd (omega arith)
  earlier_meet b (x ∷ xs) a s l e = meet-before x b (xs ++ a) s (not_false (test x) e)

  pub meet_earlier : (cs : List (List T)) (j : ℕ) → IsStrictlySortedBy R (joined cs) → IsFilled cs → j < length cs → begins_after test (get_or cs j []) ≡ false → AllMeet test (joined (take j cs))
  meet_earlier cs zero s f l e = tt
  meet_earlier cs (suc j) s f l e =
      earlier_meet (joined (take (suc j) cs)) (get_or cs (suc j) []) (joined (drop (suc (suc j)) cs))
      (subst (IsStrictlySortedBy R) (joined_around cs (suc j) l) s) (filled_at cs (suc j) f (omega arith) l) e

  later_none : (c a : List T) → IsStrictlySortedBy R (c ++ a) → begins_after test c ≡ true → NoneMeet test (c ++ a)
  later_none [] a s e = absurd (true≢false (sym e))
  later_none (x ∷ xs) a s e = none-from x (xs ++ a) s (not_true (test x) e)

  pub none_later : (cs : List (List T)) (j : ℕ) → IsStrictlySortedBy R (joined cs) → j < length cs → begins_after test (get_or cs j []) ≡ true → NoneMeet test (joined (drop j cs))
  none_later cs j s l e =
      let whole : drop j cs ≡ get_or cs j [] ∷ drop (suc j) cs = drop-cons cs j [] l in
      let sorted : IsStrictlySortedBy R (joined (drop j cs)) = sorted_right R (joined (take j cs)) (joined (drop j cs)) (subst (IsStrictlySortedBy R) (joined_parts cs j) s) in
      subst (λ ds. NoneMeet test (joined ds)) (sym whole) (later_none (get_or cs j []) (joined (drop (suc j) cs)) (subst (λ ds. IsStrictlySortedBy R (joined ds)) whole sorted) e)

-- ---- an item's place is where the front of all items up to it ends

module _ {T : Type 0} (R : T → T → Ordering) (o : IsTotalOrder R) (q : T) where
  lt-Less : (r : Ordering) → not (is_lt r) ≡ false → r ≡ Less
  lt-Less Less e = refl
  lt-Less Equal e = absurd (true≢false e)
  lt-Less Greater e = absurd (true≢false e)

  above_none : (xs : List T) → NoneMeet (up_to R o q) xs → AllAbove R xs q
  above_none [] a = tt
  above_none (x ∷ xs) a = (lt-Less (R q x) a.0, above_none xs a.1)

  below_to : (b c a : List T) → IsStrictlySortedBy R (b ++ (c ++ a)) → 1 ≤ length c → begins_after (up_to R o q) c ≡ false → AllBelow R b q
  below_to b [] a s l e = absurd (omega arith)
  below_to b (x ∷ xs) a s l e = below-before R o q x b (xs ++ a) s (not_true (is_lt (R q x)) (not_false (not (is_lt (R q x))) e))

  below_earlier : (cs : List (List T)) (j : ℕ) → IsStrictlySortedBy R (joined cs) → IsFilled cs → IsEndPlace (up_to R o q) cs j → AllBelow R (joined (take j cs)) q
  below_earlier cs zero s f p = tt
  below_earlier cs (suc j) s f p =
      below_to (joined (take (suc j) cs)) (get_or cs (suc j) []) (joined (drop (suc (suc j)) cs))
      (subst (IsStrictlySortedBy R) (joined_around cs (suc j) p.in_range) s) (filled_at cs (suc j) f (omega arith) p.in_range) (p.begins (omega arith))

  pub place_of_end : (cs : List (List T)) (j : ℕ) → IsStrictlySortedBy R (joined cs) → IsFilled cs → IsEndPlace (up_to R o q) cs j → IsPlace R cs q j
  place_of_end cs j s f p = record { in_range = p.in_range; below = below_earlier cs j s f p; above = above_none (joined (drop (suc j) cs)) p.after }
