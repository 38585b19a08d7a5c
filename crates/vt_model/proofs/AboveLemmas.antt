-- A walk over supertypes comes to the classes above, and to no others.
use Rattle.std.proofs.Common.{◌≡◌, ℕ, ◌+◌, List, [], ◌∷◌, ◌++◌, length, map, refl, sym, ap, subst, ◌∙◌, ⊎_elim, Bool, true, false, cond, arith}
use Rattle.std.specs.Prelude.{◌<◌, ◌≤◌, nat_eq, All, Contains, slice_get, unwrap_or, Option, Some, None, option_map}
use Rattle.std.specs.List.{list_any, IsDistinct}
use Rattle.std.specs.Cmp.{nat_eq_equiv}
use Rattle.std.proofs.lemmas.Bool.{cases_lt}
use Rattle.std.proofs.lemmas.List.{append-nil, append_assoc, length-append, length-map, get_or-map, get_or_append_left}
use Rattle.std.proofs.lemmas.List.Elements.{All-contains, All-nil, All-cons, All-head, All-tail, All-map, All-push, All-weaker, All-contains_itself, Contains-append_left}
use Rattle.std.proofs.lemmas.List.Folds.{Any-from_list_any, list_any_at}
use Rattle.std.proofs.lemmas.Map.Keys.{IsDistinct-push}
use Rattle.std.proofs.lemmas.Map.Steps.{length-le_from_distinct_below}
use Rattle.std.proofs.lemmas.Map.Views.{Contains-from_any, list_any-from_Contains, exact_unsigned_eq}
use Rattle.std.proofs.lemmas.Option.{slice_get-map, slice_get-get_or, slice_get_within, get_or_from_slice_get, same_Some}
use Rattle.indexmap.specs.IndexSet.{insert_key, insert_all}
use Rattle.indexmap.proofs.CallerLemmas.{Contains-insert_key}
use Rattle.vt_base.specs.declared.numbers.ClassId.{ClassId}
use Rattle.vt_model.specs.Metamodel.{supers_of, IsPath, is_within}
use Rattle.vt_model.specs.Above.{class_id, ids, supers_at, AreThere, is_above_any, IsAbove}
use Rattle.vt_model.proofs.IsaLemmas.{is_within_exact}

-- ---- keys that are added where they aren't there

-- what is there stays in its place
pub record Extends (ks new : List ℕ) : Type 0 where
  pub more : List ℕ
  pub is : new ≡ ks ++ more

Extends-insert_key : (ks : List ℕ) (k : ℕ) → Extends ks (insert_key nat_eq ks k)
Extends-insert_key ks k = elim (list_any (nat_eq k) ks) as (λ b. Extends ks (cond b ks (ks ++ k ∷ []))) [
  | true ↦ record { more = []; is = sym (append-nil ks) }
  | false ↦ record { more = k ∷ []; is = refl }
]

pub Extends-insert_all : (xs ks : List ℕ) → Extends ks (insert_all nat_eq ks xs)
Extends-insert_all [] ks = record { more = []; is = sym (append-nil ks) }
Extends-insert_all (x ∷ xs) ks =
    let first = Extends-insert_key ks x in
    let rest = Extends-insert_all xs (insert_key nat_eq ks x) in
    record { more = first.more ++ rest.more; is = rest.is ∙ ap (λ l. l ++ rest.more) first.is ∙ append_assoc ks first.more rest.more }

pub Contains-Extends : (ks new : List ℕ) (x : ℕ) → Extends ks new → Contains ks x → Contains new x
Contains-Extends ks new x e has = subst (λ l. Contains l x) (sym e.is) (Contains-append_left ks e.more x has)

All-insert_key : (P : ℕ → Type 0) (ks : List ℕ) (k : ℕ) → All P ks → P k → All P (insert_key nat_eq ks k)
All-insert_key P ks k all here = elim (list_any (nat_eq k) ks) as (λ b. All P (cond b ks (ks ++ k ∷ []))) [
  | true ↦ all
  | false ↦ All-push P ks k all here
]

pub All-insert_all : (P : ℕ → Type 0) (xs ks : List ℕ) → All P ks → All P xs → All P (insert_all nat_eq ks xs)
All-insert_all P [] ks all new = all
All-insert_all P (x ∷ xs) ks all new = All-insert_all P xs (insert_key nat_eq ks x) (All-insert_key P ks x all (All-head P x xs new)) (All-tail P x xs new)

IsDistinct-insert_key : (ks : List ℕ) (k : ℕ) → IsDistinct nat_eq ks → IsDistinct nat_eq (insert_key nat_eq ks k)
IsDistinct-insert_key ks k distinct = by (list_any (nat_eq k) ks) refl
  where
    by : (b : Bool) → list_any (nat_eq k) ks ≡ b → IsDistinct nat_eq (insert_key nat_eq ks k)
    by true e = subst (λ b. IsDistinct nat_eq (cond b ks (ks ++ k ∷ []))) (sym e) distinct
    by false e = subst (λ b. IsDistinct nat_eq (cond b ks (ks ++ k ∷ []))) (sym e) (IsDistinct-push nat_eq_equiv ks k distinct e)

pub IsDistinct-insert_all : (xs ks : List ℕ) → IsDistinct nat_eq ks → IsDistinct nat_eq (insert_all nat_eq ks xs)
IsDistinct-insert_all [] ks distinct = distinct
IsDistinct-insert_all (x ∷ xs) ks distinct = IsDistinct-insert_all xs (insert_key nat_eq ks x) (IsDistinct-insert_key ks x distinct)

-- what is added is there
pub added : (xs ks : List ℕ) → All (Contains (insert_all nat_eq ks xs)) xs
added [] ks = All-nil (Contains ks)
added (x ∷ xs) ks = All-cons (Contains (insert_all nat_eq ks (x ∷ xs))) x xs
    (Contains-Extends (insert_key nat_eq ks x) (insert_all nat_eq ks (x ∷ xs)) x (Extends-insert_all xs (insert_key nat_eq ks x)) (Contains-insert_key nat_eq exact_unsigned_eq ks x))
    (added xs (insert_key nat_eq ks x))

none_distinct : IsDistinct nat_eq []
unfolding IsDistinct
none_distinct = tt

pub same_bool : (a b : Bool) → (a ≡ true → b ≡ true) → (b ≡ true → a ≡ true) → a ≡ b
same_bool true b there back = sym (there refl)
same_bool false true there back = back refl
same_bool false false there back = refl

slice_get-append_left : (xs ys : List ℕ) (i : ℕ) → i < length xs → slice_get (xs ++ ys) i ≡ slice_get xs i
slice_get-append_left xs ys i below =
    let within : i < length (xs ++ ys) = simp length-append (omega arith) in
    slice_get-get_or (xs ++ ys) i 0 within ∙ ap Some (get_or_append_left xs ys 0 i below) ∙ sym (slice_get-get_or xs i 0 below)

-- ---- places and numbers

pub supers_of-ids : (supers : List (List ℕ)) (c : ℕ) → supers_of (ids supers) (class_id c) ≡ map class_id (supers_at supers c)
supers_of-ids supers c = ap (λ r. unwrap_or r []) (slice_get-map (map class_id) supers c) ∙ by (slice_get supers c)
  where
    by : (r : Option (List ℕ)) → unwrap_or (option_map (map class_id) r) [] ≡ map class_id (unwrap_or r [])
    by None = refl
    by (Some above) = refl

Contains-map-class_id : (xs : List ℕ) (x : ℕ) → Contains xs x → Contains (map class_id xs) (class_id x)
Contains-map-class_id xs x has = (has.0, subst (λ n. has.0 < n) (sym (length-map xs class_id)) has.1, get_or-map class_id xs has.0 x (class_id x) has.1 ∙ ap class_id has.2)

Contains-class_id : (xs : List ℕ) (x : ℕ) → Contains (map class_id xs) (class_id x) → Contains xs x
Contains-class_id xs x has =
    let within : has.0 < length xs = subst (λ n. has.0 < n) (length-map xs class_id) has.1 in
    (has.0, within, ap (λ (c : ClassId). c.0) (sym (get_or-map class_id xs has.0 x (class_id x) within) ∙ has.2))

module _ (supers : List (List ℕ)) where
  pub there-ids : AreThere supers → All (All (λ (e : ClassId). e.0 < length supers)) (ids supers)
  there-ids there = All-map (All (λ (e : ClassId). e.0 < length supers)) (map class_id) supers
      (All-weaker (All (λ e. e < length supers)) (λ l. All (λ (e : ClassId). e.0 < length supers) (map class_id l)) (λ l all. All-map (λ (e : ClassId). e.0 < length supers) class_id l all) supers there)

  pub below_supers_at : AreThere supers → (c : ℕ) → All (λ e. e < length supers) (supers_at supers c)
  below_supers_at there c = by (slice_get supers c) refl
    where
      by : (r : Option (List ℕ)) → slice_get supers c ≡ r → All (λ e. e < length supers) (unwrap_or r [])
      by None e = All-nil (λ e. e < length supers)
      by (Some above) e = subst (All (λ e. e < length supers)) (get_or_from_slice_get supers c above above e) (there c above (slice_get_within supers c above e))

  module _ (starts : List ℕ) where
    -- a path leads there from one of the first classes
    pub record IsReached (x : ℕ) : Type 0 where
      pub start : ℕ
      pub first : Contains starts start
      pub path : List ClassId
      pub is : IsPath (ids supers) (class_id start) path (class_id x)

    -- the supertypes of the first classes of a walk are on it
    pub record IsWalk (keys : List ℕ) (next : ℕ) : Type 0 where
      pub distinct : IsDistinct nat_eq keys
      pub there : All (λ x. x < length supers) keys
      pub has_starts : All (Contains keys) starts
      pub reached : All IsReached keys
      pub closed : (j x : ℕ) → j < next → slice_get keys j ≡ Some x → All (Contains keys) (supers_at supers x)

    IsReached-start : (x : ℕ) → Contains starts x → IsReached x
    IsReached-start x first = record { start = x; first = first; path = []; is = refl }

    IsPath-push : (path : List ClassId) (c x e : ClassId) → IsPath (ids supers) c path x → Contains (supers_of (ids supers) x) e → IsPath (ids supers) c (path ++ e ∷ []) e
    IsPath-push [] c x e is step = (subst (λ z. Contains (supers_of (ids supers) z) e) (sym is) step, refl)
    IsPath-push (f ∷ path) c x e is step = (is.0, IsPath-push path f x e is.1 step)

    IsReached-step : (x e : ℕ) → IsReached x → Contains (supers_at supers x) e → IsReached e
    IsReached-step x e r step = record {
      start = r.start;
      first = r.first;
      path = r.path ++ class_id e ∷ [];
      is = IsPath-push r.path (class_id r.start) (class_id x) (class_id e) r.is (subst (λ l. Contains l (class_id e)) (sym (supers_of-ids supers x)) (Contains-map-class_id (supers_at supers x) e step));
    }

    pub walk_start : All (λ x. x < length supers) starts → IsWalk (insert_all nat_eq [] starts) 0
    walk_start below = record {
      distinct = IsDistinct-insert_all starts [] none_distinct;
      there = All-insert_all (λ x. x < length supers) starts [] (All-nil (λ x. x < length supers)) below;
      has_starts = added starts [];
      reached = All-insert_all IsReached starts [] (All-nil IsReached) (All-weaker (Contains starts) IsReached IsReached-start starts (All-contains_itself starts));
      closed = λ j x below at. absurd (omega arith);
    }

    pub walk_step : AreThere supers → (keys : List ℕ) (next x : ℕ) → IsWalk keys next → slice_get keys next ≡ Some x → IsWalk (insert_all nat_eq keys (supers_at supers x)) (next + 1)
    walk_step there keys next x w at =
        let above = supers_at supers x in
        let new = insert_all nat_eq keys above in
        let grown : Extends keys new = Extends-insert_all above keys in
        let within : next < length keys = slice_get_within keys next x at in
        let here : IsReached x = subst IsReached (get_or_from_slice_get keys next x x at) (w.reached next x within) in
        let stays : (j : ℕ) → j < length keys → slice_get new j ≡ slice_get keys j = λ j lt. ap (λ l. slice_get l j) grown.is ∙ slice_get-append_left keys grown.more j lt in
        record {
          distinct = IsDistinct-insert_all above keys w.distinct;
          there = All-insert_all (λ x. x < length supers) above keys w.there (below_supers_at there x);
          has_starts = All-weaker (Contains keys) (Contains new) (λ s has. Contains-Extends keys new s grown has) starts w.has_starts;
          reached = All-insert_all IsReached above keys w.reached (All-weaker (Contains above) IsReached (λ e has. IsReached-step x e here has) above (All-contains_itself above));
          closed = λ j y before at_j. ⊎_elim
              (λ earlier. All-weaker (Contains keys) (Contains new) (λ e has. Contains-Extends keys new e grown has) (supers_at supers y) (w.closed j y earlier (sym (stays j (omega arith)) ∙ at_j)))
              (λ late.
              let same : j ≡ next = omega arith in
              let is : x ≡ y = same_Some x y (sym at ∙ sym (stays next within) ∙ ap (slice_get new) (sym same) ∙ at_j) in
              subst (λ z. All (Contains new) (supers_at supers z)) is (added above keys))
              (cases_lt j next);
        }

    -- ---- the end of a walk

    on_path : (keys : List ℕ) (next : ℕ) → IsWalk keys next → length keys ≤ next
        → (path : List ClassId) (c d : ClassId) → IsPath (ids supers) c path d → Contains keys c.0 → Contains keys d.0
    on_path keys next w all [] c d is has = subst (λ (z : ClassId). Contains keys z.0) is has
    on_path keys next w all (e ∷ path) c d is has =
        let within : has.0 < length keys = has.1 in
        let at : slice_get keys has.0 ≡ Some c.0 = slice_get-get_or keys has.0 c.0 within ∙ ap Some has.2 in
        let closed : All (Contains keys) (supers_at supers c.0) = w.closed has.0 c.0 (omega arith) at in
        let step : Contains (supers_at supers c.0) e.0 = Contains-class_id (supers_at supers c.0) e.0 (subst (λ l. Contains l e) (supers_of-ids supers c.0) is.0) in
        on_path keys next w all path e d is.1 (All-contains (Contains keys) (supers_at supers c.0) e.0 closed step)

    pub above_end : AreThere supers → (keys : List ℕ) (next : ℕ) → IsWalk keys next → length keys ≤ next → IsAbove supers starts keys
    above_end there keys next w all = record { distinct = w.distinct; there = w.there; exact = λ d. same_bool (list_any (nat_eq d) keys) (is_above_any supers starts d) (found d) (kept d) }
      where
        found : (d : ℕ) → list_any (nat_eq d) keys ≡ true → is_above_any supers starts d ≡ true
        found d has =
            let r = All-contains IsReached keys d w.reached (Contains-from_any exact_unsigned_eq d keys has) in
            let is : is_within (ids supers) (length supers) (class_id r.start) (class_id d) ≡ true = (is_within_exact (ids supers) (length supers) (there-ids there) (class_id r.start) (class_id d)).1 (r.path, r.is) in
            let first = r.first in
            list_any_at (λ s. is_within (ids supers) (length supers) (class_id s) (class_id d)) starts first.0 r.start first.1 (subst (λ s. is_within (ids supers) (length supers) (class_id s) (class_id d) ≡ true) (sym first.2) is)

        kept : (d : ℕ) → is_above_any supers starts d ≡ true → list_any (nat_eq d) keys ≡ true
        kept d is =
            let at = Any-from_list_any (λ s. is_within (ids supers) (length supers) (class_id s) (class_id d)) starts is in
            let path = (is_within_exact (ids supers) (length supers) (there-ids there) (class_id at.1) (class_id d)).0 at.4 in
            let first : Contains keys at.1 = All-contains (Contains keys) starts at.1 w.has_starts (at.0, at.2, at.3) in
            list_any-from_Contains nat_eq_equiv d keys (on_path keys next w all path.0 (class_id at.1) (class_id d) path.1 first)

    -- no walk is longer than there are classes
    pub above_all : AreThere supers → (keys : List ℕ) (next : ℕ) → IsWalk keys next → length supers ≤ next → IsAbove supers starts keys
    above_all there keys next w all =
        let few : length keys ≤ length supers = length-le_from_distinct_below keys (length supers) w.distinct (λ q has. All-contains (λ x. x < length supers) keys q w.there (Contains-from_any exact_unsigned_eq q keys has)) in
        above_end there keys next w (omega arith)
