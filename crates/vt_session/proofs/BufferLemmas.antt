-- A client's buffer by its place, and that no client has two.
use Rattle.std.proofs.Common.{◌≡◌, ℕ, zero, suc, ◌+◌, Bool, true, false, not, ◌&&◌, ◌||◌, List, [], ◌∷◌, ◌++◌, map, Option, Some, None, refl, sym, ap, subst, ◌∙◌, cond, arith}
use Rattle.std.specs.Prelude.{filter, find, position, slice_get, slice_set, option_map, is_some, if◌then◌else◌}
use Rattle.std.specs.List.{list_any, remove}
use Rattle.std.proofs.lemmas.List.Folds.{list_any-append}
use Rattle.std.proofs.lemmas.Option.{same_Some}
use Rattle.vt_facts.specs.Names.{is_name, is_distinct}
use Rattle.vt_facts.proofs.BoolLemmas.{or_none, and_left, and_right, not_true}
use Rattle.vt_facts.proofs.NameLemmas.{same_bytes, is_name-itself}
use Rattle.vt_facts.proofs.PositionLemmas.{position-cons}
use Rattle.vt_model.specs.declared.change.Change.{Change}
use Rattle.vt_session.specs.declared.buffers.Buffer.{Buffer}
use Rattle.vt_session.specs.Buffers.{with_change}
use Rattle.vt_session.specs.Inside.Order.{HaveOneEach}

-- ---- the only item that passes a test

module _ {X : Type 0} (p : X → Bool) where
  -- it stands at this place
  abbrev pub IsOnlyAt : List X → ℕ → Type 0
  IsOnlyAt [] i = ⊥
  IsOnlyAt (x ∷ xs) zero = (p x ≡ true) × (list_any p xs ≡ false)
  IsOnlyAt (x ∷ xs) (suc i) = (p x ≡ false) × IsOnlyAt xs i

  filter-none : (xs : List X) → list_any p xs ≡ false → filter (λ x. not (p x)) xs ≡ xs
  filter-none [] none = refl
  filter-none (x ∷ xs) none =
      let parts = or_none (p x) (list_any p xs) none in
      ap (λ b. cond (not b) (x ∷ filter (λ y. not (p y)) xs) (filter (λ y. not (p y)) xs)) parts.0 ∙ ap (λ ys. x ∷ ys) (filter-none xs parts.1)

  -- taken out, it is as if those that pass were left out
  pub remove-only : (xs : List X) (i : ℕ) → IsOnlyAt xs i → remove xs i ≡ filter (λ x. not (p x)) xs
  remove-only [] i only = absurd only
  remove-only (x ∷ xs) zero only =
      sym (ap (λ b. cond (not b) (x ∷ filter (λ y. not (p y)) xs) (filter (λ y. not (p y)) xs)) only.0 ∙ filter-none xs only.1)
  remove-only (x ∷ xs) (suc i) only =
      ap (λ ys. x ∷ ys) (remove-only xs i only.1)
      ∙ sym (ap (λ b. cond (not b) (x ∷ filter (λ y. not (p y)) xs) (filter (λ y. not (p y)) xs)) only.0)

  map-none : (f : X → X) (xs : List X) → list_any p xs ≡ false → map (λ x. if p x then f x else x) xs ≡ xs
  map-none f [] none = refl
  map-none f (x ∷ xs) none =
      let parts = or_none (p x) (list_any p xs) none in
      ap (λ b. cond b (f x) x ∷ map (λ y. if p y then f y else y) xs) parts.0 ∙ ap (λ ys. x ∷ ys) (map-none f xs parts.1)

  -- changed, it is as if those that pass were changed
  pub set-only : (f : X → X) (xs : List X) (i : ℕ) (x : X) → IsOnlyAt xs i → slice_get xs i ≡ Some x → slice_set xs i (f x) ≡ map (λ y. if p y then f y else y) xs
  set-only f [] i x only at = absurd only
  set-only f (y ∷ ys) zero x only at =
      ap (λ z. f z ∷ ys) (sym (same_Some y x at))
      ∙ sym (ap (λ b. cond b (f y) y ∷ map (λ z. if p z then f z else z) ys) only.0 ∙ ap (λ zs. f y ∷ zs) (map-none f ys only.1))
  set-only f (y ∷ ys) (suc i) x only at =
      ap (λ zs. y ∷ zs) (set-only f ys i x only.1 at)
      ∙ sym (ap (λ b. cond b (f y) y ∷ map (λ z. if p z then f z else z) ys) only.0)

  -- a search finds it
  pub find-only : (xs : List X) (i : ℕ) → IsOnlyAt xs i → find p xs ≡ slice_get xs i
  find-only [] i only = absurd only
  find-only (x ∷ xs) zero only = ap (λ b. cond b (Some x) (find p xs)) only.0
  find-only (x ∷ xs) (suc i) only = ap (λ b. cond b (Some x) (find p xs)) only.0 ∙ find-only xs i only.1

  pub slice_get-only : (xs : List X) (i : ℕ) → IsOnlyAt xs i → is_some (slice_get xs i) ≡ true
  slice_get-only [] i only = absurd only
  slice_get-only (x ∷ xs) zero only = refl
  slice_get-only (x ∷ xs) (suc i) only = slice_get-only xs i only.1

  -- ---- no item that passes

  pub find-none : (xs : List X) → list_any p xs ≡ false → find p xs ≡ None
  find-none [] none = refl
  find-none (x ∷ xs) none =
      let parts = or_none (p x) (list_any p xs) none in
      ap (λ b. cond b (Some x) (find p xs)) parts.0 ∙ find-none xs parts.1

  pub without-none : (xs : List X) → list_any p xs ≡ false → filter (λ x. not (p x)) xs ≡ xs
  without-none xs none = filter-none xs none

  pub none-position : (xs : List X) → position p xs ≡ None → list_any p xs ≡ false
  none-position [] e = refl
  none-position (x ∷ xs) e = by (p x) (position p xs) (none-position xs) (sym (position-cons p x xs) ∙ e)
    where
      by : (b : Bool) (r : Option ℕ) → (r ≡ None → list_any p xs ≡ false) → cond b (Some 0) (option_map (λ n. n + 1) r) ≡ None → (b || list_any p xs) ≡ false
      by true r rest none = cc
      by false None rest none = rest refl
      by false (Some n) rest none = cc

-- ---- the buffer of a client

-- the buffer is the client's
abbrev pub is_of : List ℕ → Buffer → Bool
is_of client b = is_name b.client client

any-map : (p : List ℕ → Bool) (buffers : List Buffer) → list_any p (map (λ b. b.client) buffers) ≡ list_any (λ b. p b.client) buffers
any-map p [] = refl
any-map p (b ∷ buffers) = ap (λ rest. p b.client || rest) (any-map p buffers)

-- where no client has two, the place that a search gives is that of the only one
pub only-position : (client : List ℕ) (buffers : List Buffer) (i : ℕ) → HaveOneEach buffers → position (is_of client) buffers ≡ Some i → IsOnlyAt (is_of client) buffers i
only-position client [] i once e = cc
only-position client (b ∷ buffers) i once e =
    by (λ j at. only-position client buffers j (and_right (not (list_any (λ n. is_name n b.client) (map (λ c. c.client) buffers))) (is_distinct (map (λ c. c.client) buffers)) once) at)
    (is_name b.client client) refl (position (is_of client) buffers) refl (sym (position-cons (is_of client) b buffers) ∙ e)
  where
    none_else : is_name b.client client ≡ true → list_any (is_of client) buffers ≡ false
    none_else is =
        subst (λ name. list_any (λ c. is_name c.client name) buffers ≡ false) (same_bytes b.client client is)
        (sym (any-map (λ n. is_name n b.client) buffers)
        ∙ not_true (list_any (λ n. is_name n b.client) (map (λ c. c.client) buffers)) (and_left (not (list_any (λ n. is_name n b.client) (map (λ c. c.client) buffers))) (is_distinct (map (λ c. c.client) buffers)) once))

    by : ((j : ℕ) → position (is_of client) buffers ≡ Some j → IsOnlyAt (is_of client) buffers j)
        → (is : Bool) → is_name b.client client ≡ is → (r : Option ℕ) → position (is_of client) buffers ≡ r → cond is (Some 0) (option_map (λ n. n + 1) r) ≡ Some i → IsOnlyAt (is_of client) (b ∷ buffers) i
    by rest true here r at found = subst (IsOnlyAt (is_of client) (b ∷ buffers)) (same_Some 0 i found) (here, none_else here)
    by rest false away None at found = cc
    by rest false away (Some j) at found =
        let next : suc j ≡ i = omega (arith, same_Some (j + 1) i found) in
        subst (IsOnlyAt (is_of client) (b ∷ buffers)) next (away, rest j at)

-- ---- no client has two

both : (a b : Bool) → a ≡ true → b ≡ true → (a && b) ≡ true
both true b e f = f
both false b e f = cc

any-filter_none : (p : List ℕ → Bool) (q : Buffer → Bool) (buffers : List Buffer) → list_any p (map (λ b. b.client) buffers) ≡ false → list_any p (map (λ b. b.client) (filter q buffers)) ≡ false
any-filter_none p q [] none = refl
any-filter_none p q (b ∷ buffers) none =
    let parts = or_none (p b.client) (list_any p (map (λ c. c.client) buffers)) none in
    elim (q b) as (λ (kept : Bool). list_any p (map (λ (c : Buffer). c.client) (cond kept (b ∷ filter q buffers) (filter q buffers))) ≡ false) [
      | true ↦ ap (λ first. first || list_any p (map (λ c. c.client) (filter q buffers))) parts.0 ∙ any-filter_none p q buffers parts.1
      | false ↦ any-filter_none p q buffers parts.1
    ]

pub HaveOneEach-filter : (q : Buffer → Bool) (buffers : List Buffer) → HaveOneEach buffers → HaveOneEach (filter q buffers)
HaveOneEach-filter q [] once = refl
HaveOneEach-filter q (b ∷ buffers) once =
    let first = and_left (not (list_any (λ n. is_name n b.client) (map (λ c. c.client) buffers))) (is_distinct (map (λ c. c.client) buffers)) once in
    let rest = and_right (not (list_any (λ n. is_name n b.client) (map (λ c. c.client) buffers))) (is_distinct (map (λ c. c.client) buffers)) once in
    elim (q b) as (λ (kept : Bool). is_distinct (map (λ (c : Buffer). c.client) (cond kept (b ∷ filter q buffers) (filter q buffers))) ≡ true) [
      | true ↦ both (not (list_any (λ n. is_name n b.client) (map (λ c. c.client) (filter q buffers)))) (is_distinct (map (λ c. c.client) (filter q buffers)))
          (ap not (any-filter_none (λ n. is_name n b.client) q buffers (not_true (list_any (λ n. is_name n b.client) (map (λ c. c.client) buffers)) first)))
          (HaveOneEach-filter q buffers rest)
      | false ↦ HaveOneEach-filter q buffers rest
    ]

-- two names that differ, the other way round
turned : (a b : List ℕ) → is_name a b ≡ false → is_name b a ≡ false
turned a b apart = by (is_name b a) refl
  where
    by : (r : Bool) → is_name b a ≡ r → r ≡ false
    by true is = let back : is_name a b ≡ true = is_name-itself a b (sym (same_bytes b a is)) in cc
    by false is = refl

map-push : (buffers : List Buffer) (b : Buffer) → map (λ c. c.client) (buffers ++ b ∷ []) ≡ map (λ c. c.client) buffers ++ b.client ∷ []
map-push [] b = refl
map-push (c ∷ buffers) b = ap (λ names. c.client ∷ names) (map-push buffers b)

distinct-push : (names : List (List ℕ)) (name : List ℕ) → is_distinct names ≡ true → list_any (λ n. is_name n name) names ≡ false → is_distinct (names ++ name ∷ []) ≡ true
distinct-push [] name once none = refl
distinct-push (n ∷ names) name once none =
    let first = and_left (not (list_any (λ m. is_name m n) names)) (is_distinct names) once in
    let rest = and_right (not (list_any (λ m. is_name m n) names)) (is_distinct names) once in
    let parts = or_none (is_name n name) (list_any (λ m. is_name m name) names) none in
    let absent : list_any (λ m. is_name m n) (names ++ name ∷ []) ≡ false =
    list_any-append (λ m. is_name m n) names (name ∷ [])
    ∙ ap (λ b. b || (is_name name n || false)) (not_true (list_any (λ m. is_name m n) names) first)
    ∙ ap (λ b. b || false) (turned n name parts.0) in
    both (not (list_any (λ m. is_name m n) (names ++ name ∷ []))) (is_distinct (names ++ name ∷ [])) (ap not absent) (distinct-push names name rest parts.1)

-- one that none has is added
pub HaveOneEach-push : (buffers : List Buffer) (b : Buffer) → HaveOneEach buffers → list_any (is_of b.client) buffers ≡ false → HaveOneEach (buffers ++ b ∷ [])
HaveOneEach-push buffers b once none =
    ap is_distinct (map-push buffers b)
    ∙ distinct-push (map (λ c. c.client) buffers) b.client once (any-map (λ n. is_name n b.client) buffers ∙ none)

-- a change goes in, and the clients stay
clients-with_change : (client : List ℕ) (change : Change) (buffers : List Buffer) → map (λ b. b.client) (with_change client change buffers) ≡ map (λ b. b.client) buffers
clients-with_change client change [] = refl
clients-with_change client change (b ∷ buffers) =
    ap (λ name. name ∷ map (λ (c : Buffer). c.client) (with_change client change buffers)) (same_client (is_name b.client client))
    ∙ ap (λ names. b.client ∷ names) (clients-with_change client change buffers)
  where
    same_client : (is : Bool) → (cond is (record b { changes = b.changes ++ change ∷ [] }) b).client ≡ b.client
    same_client true = refl
    same_client false = refl

pub HaveOneEach-with_change : (client : List ℕ) (change : Change) (buffers : List Buffer) → HaveOneEach buffers → HaveOneEach (with_change client change buffers)
HaveOneEach-with_change client change buffers once = ap is_distinct (clients-with_change client change buffers) ∙ once
