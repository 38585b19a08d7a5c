-- Deltas at their numbers: those that were handed over, then those that are kept, or empty.
use Rattle.std.proofs.Common.{◌≡◌, ◌<◌, ◌≤◌, ◌+◌, ◌-◌, ℕ, zero, suc, length, length-append, length-set, List, [], ◌∷◌, Option, Some, None, refl, sym, ap, ◌∙◌, ⊎_elim, arith}
use Rattle.std.proofs.lemmas.Bool.{cases_eq}
use Rattle.std.proofs.lemmas.List.{length-map}
use Rattle.std.specs.Prelude.{◌++◌, map, replicate, slice_get, slice_set, slice_index_or, unwrap_or, option_map}
use Rattle.std.specs.BTreeMap.{BTreeMap, get, is_at}
use Rattle.std.specs.List.{range_with_len}
use Rattle.std.specs.Map.{lookup}
use Rattle.std.specs.Ordering.{nat_cmp}
use Rattle.vt_delta.specs.Changes.{Change, change_of, no_change, changes_of, turned_at}
use Rattle.vt_delta.specs.Inside.Kept.{delta_at, deltas_from, change_at}
use Rattle.vt_delta.specs.declared.delta.Delta.{Delta}

-- ---- values at numbers

-- the values at so many numbers, from one on
abbrev values : {X : Type 0} → (ℕ → X) → ℕ → ℕ → List X
values f start count = map f (range_with_len start count)

length-values : {X : Type 0} (f : ℕ → X) (start count : ℕ) → length (values f start count) ≡ count
length-values f start zero = refl
length-values f start (suc count) = ap suc (length-values f (start + 1) count)

-- a number is found behind some others
get-values : {X : Type 0} (xs : List X) (f : ℕ → X) (start count i j n : ℕ) → i < count → start + i ≡ n → length xs + i ≡ j
    → slice_get (xs ++ values f start count) j ≡ Some (f n)
get-values [] f start zero i j n below at place = absurd (omega (arith, below))
get-values [] f start (suc count) zero zero n below at place = let e : start ≡ n = omega (arith, at) in ap (λ m. Some (f m)) e
get-values [] f start (suc count) zero (suc j) n below at place = absurd (omega (arith, place))
get-values [] f start (suc count) (suc i) zero n below at place = absurd (omega (arith, place))
get-values [] f start (suc count) (suc i) (suc j) n below at place =
    get-values [] f (start + 1) count i j n (omega (arith, below)) (omega (arith, at)) (omega (arith, place))
get-values (x ∷ xs) f start count i zero n below at place = absurd (omega (arith, place))
get-values (x ∷ xs) f start count i (suc j) n below at place = get-values xs f start count i j n below at (omega (arith, place))

-- equal from a number on
values-same : {X : Type 0} (f g : ℕ → X) (start count : ℕ) → ((m : ℕ) → start ≤ m → g m ≡ f m) → values g start count ≡ values f start count
values-same f g start zero same = refl
values-same f g start (suc count) same =
    ap (λ x. x ∷ values g (start + 1) count) (same start (omega arith))
    ∙ ap (λ xs. f start ∷ xs) (values-same f g (start + 1) count (λ m from. same m (omega (arith, from))))

-- the same value at each
values-replicate : {X : Type 0} (f : ℕ → X) (x : X) (start count : ℕ) → ((m : ℕ) → f m ≡ x) → values f start count ≡ replicate count x
values-replicate f x start zero is = refl
values-replicate f x start (suc count) is = ap (λ y. y ∷ values f (start + 1) count) (is start) ∙ ap (λ ys. x ∷ ys) (values-replicate f x (start + 1) count is)

-- one of them turned
values-turned : (turn : Change → Change) (cs : List Change) (f g : ℕ → Change) (start count i j n : ℕ) → i < count → start + i ≡ n → length cs + i ≡ j
    → ((m : ℕ) → (m ≡ n → ⊥) → g m ≡ f m) → g n ≡ turn (f n) → cs ++ values g start count ≡ turned_at turn (cs ++ values f start count) j
values-turned turn [] f g start zero i j n below at place others turned = absurd (omega (arith, below))
values-turned turn [] f g start (suc count) zero zero n below at place others turned =
    let e : n ≡ start = omega (arith, at) in
    ap (λ c. c ∷ values g (start + 1) count) (ap g (sym e) ∙ turned ∙ ap (λ m. turn (f m)) e)
    ∙ ap (λ cs. turn (f start) ∷ cs) (values-same f g (start + 1) count (λ m from. others m (λ same. absurd (omega (arith, from, same, at)))))
values-turned turn [] f g start (suc count) zero (suc j) n below at place others turned = absurd (omega (arith, place))
values-turned turn [] f g start (suc count) (suc i) zero n below at place others turned = absurd (omega (arith, place))
values-turned turn [] f g start (suc count) (suc i) (suc j) n below at place others turned =
    ap (λ c. c ∷ values g (start + 1) count) (others start (λ same. absurd (omega (arith, same, at))))
    ∙ ap (λ cs. f start ∷ cs) (values-turned turn [] f g (start + 1) count i j n (omega (arith, below)) (omega (arith, at)) (omega (arith, place)) others turned)
values-turned turn (c ∷ cs) f g start count i zero n below at place others turned = absurd (omega (arith, place))
values-turned turn (c ∷ cs) f g start count i (suc j) n below at place others turned =
    ap (λ ds. c ∷ ds) (values-turned turn cs f g start count i j n below at (omega (arith, place)) others turned)

-- ---- deltas at numbers

-- the change of what is kept, or of the empty one
change-delta_at : (kept : BTreeMap ℕ Delta) (empty : Delta) → change_of empty ≡ no_change → (n : ℕ) → change_of (delta_at kept empty n) ≡ change_at kept n
change-delta_at kept empty is n = by (get nat_cmp kept n)
  where
    by : (o : Option Delta) → change_of (unwrap_or o empty) ≡ unwrap_or (option_map change_of o) no_change
    by None = is
    by (Some d) = refl

-- what is seen: the changes that were handed over, then those that are kept
changes-seen : (given : List Delta) (kept : BTreeMap ℕ Delta) (empty : Delta) (start count : ℕ) → change_of empty ≡ no_change
    → changes_of (given ++ deltas_from kept empty start count) ≡ changes_of given ++ values (change_at kept) start count
changes-seen [] kept empty start zero is = refl
changes-seen [] kept empty start (suc count) is =
    ap (λ c. c ∷ changes_of (deltas_from kept empty (start + 1) count)) (change-delta_at kept empty is start)
    ∙ ap (λ cs. change_at kept start ∷ cs) (changes-seen [] kept empty (start + 1) count is)
changes-seen (x ∷ given) kept empty start count is = ap (λ cs. change_of x ∷ cs) (changes-seen given kept empty start count is)

-- the change of one that was handed over turned
changes-turned : (turn : Change → Change) (ds : List Delta) (rest : List Delta) (n : ℕ) (d old : Delta) → n < length ds → change_of d ≡ turn (change_of (slice_index_or ds n old))
    → changes_of (slice_set ds n d ++ rest) ≡ turned_at turn (changes_of (ds ++ rest)) n
changes-turned turn [] rest n d old below is = absurd (omega (arith, below))
changes-turned turn (x ∷ ds) rest zero d old below is = ap (λ c. c ∷ changes_of (ds ++ rest)) is
changes-turned turn (x ∷ ds) rest (suc n) d old below is = ap (λ cs. change_of x ∷ cs) (changes-turned turn ds rest n d old (omega (arith, below)) is)

-- or it stayed
changes-stayed : (ds : List Delta) (rest : List Delta) (n : ℕ) (d old : Delta) → n < length ds → change_of d ≡ change_of (slice_index_or ds n old)
    → changes_of (slice_set ds n d ++ rest) ≡ changes_of (ds ++ rest)
changes-stayed [] rest n d old below is = absurd (omega (arith, below))
changes-stayed (x ∷ ds) rest zero d old below is = ap (λ c. c ∷ changes_of (ds ++ rest)) is
changes-stayed (x ∷ ds) rest (suc n) d old below is = ap (λ cs. change_of x ∷ cs) (changes-stayed ds rest n d old (omega (arith, below)) is)

-- none is kept
pub changes-none : (given : List Delta) (kept : BTreeMap ℕ Delta) (empty : Delta) (count : ℕ) → given ≡ [] → kept.entries ≡ [] → change_of empty ≡ no_change
    → changes_of (given ++ deltas_from kept empty (length given) count) ≡ replicate count no_change
changes-none [] kept empty count none clear is =
    changes-seen [] kept empty 0 count is
    ∙ values-replicate (change_at kept) no_change 0 count (λ m. ap (λ es. unwrap_or (option_map change_of (lookup (is_at (nat_cmp m)) es)) no_change) clear)
changes-none (x ∷ given) kept empty count none clear is = cc none

-- ---- what calls find and leave

module _ (given : List Delta) (kept : BTreeMap ℕ Delta) (above : ℕ) (empty : Delta) (seen : List Delta)
    (view_is : given ++ deltas_from kept empty (length given) above ≡ seen) (n : ℕ) (there : n < length seen) where
  length-seen : length seen ≡ length given + above
  length-seen = ap length (sym view_is) ∙ length-append given (deltas_from kept empty (length given) above)
      ∙ ap (λ k. length given + k) (length-values (delta_at kept empty) (length given) above)

  module _ (past : length given ≤ n) where
    -- a number above those that were handed over
    pub get-above : slice_get seen n ≡ Some (delta_at kept empty n)
    get-above = ap (λ ds. slice_get ds n) (sym view_is)
        ∙ get-values given (delta_at kept empty) (length given) above (n - length given) n n
        (omega (arith, past, there, length-seen)) (omega (arith, past)) (omega (arith, past))

    -- there a change turned
    pub changes-kept : (new : BTreeMap ℕ Delta) (turn : Change → Change) → change_of empty ≡ no_change → change_at new n ≡ turn (change_at kept n)
        → ((q : ℕ) → (q ≡ n → ⊥) → change_at new q ≡ change_at kept q)
        → changes_of (given ++ deltas_from new empty (length given) above) ≡ turned_at turn (changes_of seen) n
    changes-kept new turn is turned others =
        changes-seen given new empty (length given) above is
        ∙ values-turned turn (changes_of given) (change_at kept) (change_at new) (length given) above (n - length given) n n
        (omega (arith, past, there, length-seen)) (omega (arith, past)) (omega (arith, past, length-map given change_of)) others turned
        ∙ ap (λ cs. turned_at turn cs n) (sym (changes-seen given kept empty (length given) above is) ∙ ap changes_of view_is)

    -- or stayed
    pub changes-kept_same : (new : BTreeMap ℕ Delta) → change_of empty ≡ no_change → change_at new n ≡ change_at kept n
        → ((q : ℕ) → (q ≡ n → ⊥) → change_at new q ≡ change_at kept q)
        → changes_of (given ++ deltas_from new empty (length given) above) ≡ changes_of seen
    changes-kept_same new is stayed others =
        changes-seen given new empty (length given) above is
        ∙ ap (λ cs. changes_of given ++ cs) (values-same (change_at kept) (change_at new) (length given) above
        (λ q from. ⊎_elim (λ same. ap (change_at new) same ∙ stayed ∙ ap (change_at kept) (sym same)) (λ apart. others q apart) (cases_eq q n)))
        ∙ sym (changes-seen given kept empty (length given) above is) ∙ ap changes_of view_is

  module _ (below : n < length given) (old d : Delta) (old_is : slice_index_or given n old ≡ old) where
    -- one that was handed over turned
    pub changes-given : (turn : Change → Change) → change_of d ≡ turn (change_of old)
        → changes_of (slice_set given n d ++ deltas_from kept empty (length (slice_set given n d)) above) ≡ turned_at turn (changes_of seen) n
    changes-given turn turned =
        ap (λ k. changes_of (slice_set given n d ++ deltas_from kept empty k above)) (length-set given n d)
        ∙ changes-turned turn given (deltas_from kept empty (length given) above) n d old below (turned ∙ ap (λ x. turn (change_of x)) (sym old_is))
        ∙ ap (λ ds. turned_at turn (changes_of ds) n) view_is

    -- or stayed
    pub changes-given_same : change_of d ≡ change_of old
        → changes_of (slice_set given n d ++ deltas_from kept empty (length (slice_set given n d)) above) ≡ changes_of seen
    changes-given_same stayed =
        ap (λ k. changes_of (slice_set given n d ++ deltas_from kept empty k above)) (length-set given n d)
        ∙ changes-stayed given (deltas_from kept empty (length given) above) n d old below (stayed ∙ ap change_of (sym old_is))
        ∙ ap changes_of view_is
