-- The set of a slab's rows: what stands in it, and what an edit of the slab makes of it.
use Rattle.std.proofs.Common.{◌≡◌, ◌≢◌, ℕ, suc, ◌+◌, get_or, Bool, true, false, not, ◌&&◌, ◌||◌, Option, Some, None, List, [], ◌∷◌, Contains, refl, sym, ap, ◌∙◌, subst, inl, inr, arith}
use mathlib.Core.Bool.{true≢false}
use Rattle.std.specs.Ordering.{eq_by_cmp}
use Rattle.std.proofs.lemmas.Bool.{cases_eq}
use Rattle.slab.specs.Slab.{Slab, get, entries, entries_from, Updates}
use Rattle.slab.proofs.SlabLemmas.{Contains-cons, Contains-cons_cases, Contains-entries}
use Rattle.vt_sorted.specs.Ascending.{with_item, without_item}
use Rattle.vt_base.specs.Order.{tuple_cmp}
use Rattle.vt_base.specs.Rows.{Ascends, has_row}
use Rattle.vt_base.specs.Inside.OrderLaws.{IsTotalOrder-tuple_cmp}
use Rattle.vt_base.specs.declared.value.Value.{Value}
use Rattle.vt_base.proofs.OrderLemmas.{exact-tuple_cmp, eq_by_cmp-Decides}
use Rattle.vt_base.proofs.RowsLemmas.{same_list, ascends-none}
use Rattle.vt_delta.proofs.DeltaLemmas.{same_row, has-with_item, has-without_item, Ascends-with_item, Ascends-without_item}
use Rattle.vt_memory.specs.Inside.Indexed.{with_entries, rows_of, IsAlone}

pub same_truth : (a b : Bool) → (a ≡ true → b ≡ true) → (b ≡ true → a ≡ true) → a ≡ b
same_truth true true f g = refl
same_truth true false f g = sym (f refl)
same_truth false true f g = g refl
same_truth false false f g = refl

pub Some-injective : {A : Type 0} (x y : A) → Some x ≡ Some y → x ≡ y
Some-injective x y e = cc

pub itself : (q : List Value) → eq_by_cmp tuple_cmp q q ≡ true
itself q = (eq_by_cmp-Decides IsTotalOrder-tuple_cmp exact-tuple_cmp q q).1 refl

pub same_rows : (xs ys : List (List Value)) → Ascends xs → Ascends ys → ((q : List Value) → has_row xs q ≡ has_row ys q) → xs ≡ ys
same_rows xs ys s t same = same_list tuple_cmp IsTotalOrder-tuple_cmp exact-tuple_cmp xs ys s t same

or_left : (a b : Bool) → a ≡ true → (a || b) ≡ true
or_left true b e = refl
or_left false b e = absurd (true≢false (sym e))

pub or_right_true : (a b : Bool) → b ≡ true → (a || b) ≡ true
or_right_true true b e = refl
or_right_true false b e = e

pub or_false_right : (a : Bool) → (a || false) ≡ a
or_false_right true = refl
or_false_right false = refl

-- ---- with_entries

abbrev any_entry : List (ℕ × List Value) → List Value → Bool
any_entry [] q = false
any_entry (e ∷ es) q = eq_by_cmp tuple_cmp q e.1 || any_entry es q

pub Ascends-with_entries : (rows : List (List Value)) (es : List (ℕ × List Value)) → Ascends rows → Ascends (with_entries rows es)
Ascends-with_entries rows [] s = s
Ascends-with_entries rows (e ∷ es) s = Ascends-with_entries (with_item tuple_cmp rows e.1) es (Ascends-with_item rows e.1 s)

moved : (a b c : Bool) → (a || (b || c)) ≡ ((b || a) || c)
moved true true c = refl
moved true false c = refl
moved false true c = refl
moved false false c = refl

has-with_entries : (rows : List (List Value)) (es : List (ℕ × List Value)) (q : List Value) → has_row (with_entries rows es) q ≡ (any_entry es q || has_row rows q)
has-with_entries rows [] q = refl
has-with_entries rows (e ∷ es) q =
    has-with_entries (with_item tuple_cmp rows e.1) es q
    ∙ ap (λ b. any_entry es q || b) (has-with_item rows e.1 q)
    ∙ moved (any_entry es q) (eq_by_cmp tuple_cmp q e.1) (has_row rows q)

entry_to : (es : List (ℕ × List Value)) (q : List Value) → any_entry es q ≡ true → (k : ℕ) × Contains es (k, q)
entry_to [] q h = absurd (true≢false (sym h))
entry_to (e ∷ es) q h =
    elim (eq_by_cmp tuple_cmp q e.1) as (λ b. eq_by_cmp tuple_cmp q e.1 ≡ b → (b || any_entry es q) ≡ true → (k : ℕ) × Contains (e ∷ es) (k, q)) [
      | true ↦ λ same _. (e.0, subst (λ r. Contains (e ∷ es) (e.0, r)) (sym (same_row q e.1 same)) (0, omega arith, refl))
      | false ↦ λ _ f. let later = entry_to es q f in (later.0, Contains-cons e (later.0, q) es later.1)
    ] refl h

entry_from : (es : List (ℕ × List Value)) (k : ℕ) (q : List Value) → Contains es (k, q) → any_entry es q ≡ true
entry_from [] k q h = absurd (omega (arith, h.1))
entry_from (e ∷ es) k q h =
    elim (Contains-cons_cases e (k, q) es h) [
      | inl here ↦ or_left (eq_by_cmp tuple_cmp q e.1) (any_entry es q) (ap (λ r. eq_by_cmp tuple_cmp q r) (ap (λ (p : ℕ × List Value). p.1) here) ∙ itself q)
      | inr there ↦ or_right_true (eq_by_cmp tuple_cmp q e.1) (any_entry es q) (entry_from es k q there)
    ]

-- ---- rows_of

pub Ascends-rows_of : (slab : Slab (List Value)) → Ascends (rows_of slab)
Ascends-rows_of slab = Ascends-with_entries [] (entries slab) (ascends-none tuple_cmp)

-- what stands under a key stands in the set
pub stands_from : (slab : Slab (List Value)) (k : ℕ) (q : List Value) → get slab k ≡ Some q → has_row (rows_of slab) q ≡ true
stands_from slab k q found =
    has-with_entries [] (entries slab) q
    ∙ or_left (any_entry (entries slab) q) (has_row [] q) (entry_from (entries slab) k q ((Contains-entries slab k q).1 found))

-- what stands in the set stands under a key
pub stands_to : (slab : Slab (List Value)) (q : List Value) → has_row (rows_of slab) q ≡ true → (k : ℕ) × (get slab k ≡ Some q)
stands_to slab q h =
    let any : any_entry (entries slab) q ≡ true = sym (or_false_right (any_entry (entries slab) q)) ∙ sym (has-with_entries [] (entries slab) q) ∙ h in
    let entry = entry_to (entries slab) q any in
    (entry.0, (Contains-entries slab entry.0 q).0 entry.1)

-- what stands under no key doesn't stand in the set
pub stands_not : (slab : Slab (List Value)) (q : List Value) → ((k : ℕ) → get slab k ≢ Some q) → has_row (rows_of slab) q ≡ false
stands_not slab q none =
    elim (has_row (rows_of slab) q) as (λ b. has_row (rows_of slab) q ≡ b → b ≡ false) [
      | true ↦ λ h. let at = stands_to slab q h in absurd (none at.0 at.1)
      | false ↦ λ _. refl
    ] refl

-- a row comes under a key that has none
pub rows_of-added : (old new : Slab (List Value)) (k : ℕ) (r : List Value) → get old k ≡ None → Updates old new k (Some r) → rows_of new ≡ with_item tuple_cmp (rows_of old) r
rows_of-added old new k r none updates =
    same_rows (rows_of new) (with_item tuple_cmp (rows_of old) r) (Ascends-rows_of new) (Ascends-with_item (rows_of old) r (Ascends-rows_of old))
    (λ q. same_truth (has_row (rows_of new) q) (has_row (with_item tuple_cmp (rows_of old) r) q)
    (λ h. has-with_item (rows_of old) r q ∙ to q (stands_to new q h))
    (λ h. from q (sym (has-with_item (rows_of old) r q) ∙ h)))
  where
    stands_none : (q : List Value) → Some q ≡ None → ⊥
    stands_none q e = cc

    to : (q : List Value) → ((i : ℕ) × (get new i ≡ Some q)) → (eq_by_cmp tuple_cmp q r || has_row (rows_of old) q) ≡ true
    to q at =
        elim (cases_eq at.0 k) [
          | inl e ↦
              let same : r ≡ q = Some-injective r q (sym updates.changed ∙ ap (get new) (sym e) ∙ at.1) in
              or_left (eq_by_cmp tuple_cmp q r) (has_row (rows_of old) q) (ap (eq_by_cmp tuple_cmp q) same ∙ itself q)
          | inr d ↦ or_right_true (eq_by_cmp tuple_cmp q r) (has_row (rows_of old) q) (stands_from old at.0 q (sym (updates.others at.0 d) ∙ at.1))
        ]

    from : (q : List Value) → (eq_by_cmp tuple_cmp q r || has_row (rows_of old) q) ≡ true → has_row (rows_of new) q ≡ true
    from q h =
        elim (eq_by_cmp tuple_cmp q r) as (λ b. eq_by_cmp tuple_cmp q r ≡ b → (b || has_row (rows_of old) q) ≡ true → has_row (rows_of new) q ≡ true) [
          | true ↦ λ same _. stands_from new k q (updates.changed ∙ ap Some (sym (same_row q r same)))
          | false ↦ λ _ f.
              let at = stands_to old q f in
              let differs : at.0 ≢ k = λ e. stands_none q (sym at.1 ∙ ap (get old) e ∙ none) in
              stands_from new at.0 q (updates.others at.0 differs ∙ at.1)
        ] refl h

-- a row goes
pub rows_of-removed : (old new : Slab (List Value)) (k : ℕ) (r : List Value) → IsAlone old → get old k ≡ Some r → Updates old new k None → rows_of new ≡ without_item tuple_cmp (rows_of old) r
rows_of-removed old new k r alone found updates =
    same_rows (rows_of new) (without_item tuple_cmp (rows_of old) r) (Ascends-rows_of new) (Ascends-without_item (rows_of old) r (Ascends-rows_of old))
    (λ q. same_truth (has_row (rows_of new) q) (has_row (without_item tuple_cmp (rows_of old) r) q)
    (λ h. has-without_item (rows_of old) r q ∙ to q (stands_to new q h))
    (λ h. from q (sym (has-without_item (rows_of old) r q) ∙ h)))
  where
    stands_none : (q : List Value) → Some q ≡ None → ⊥
    stands_none q e = cc

    and_both : (a b : Bool) → a ≡ true → b ≡ false → (a && not b) ≡ true
    and_both true false e f = refl
    and_both true true e f = absurd (true≢false f)
    and_both false b e f = absurd (true≢false (sym e))

    apart : (q : List Value) → ((r ≡ q) → ⊥) → eq_by_cmp tuple_cmp q r ≡ false
    apart q d =
        elim (eq_by_cmp tuple_cmp q r) as (λ b. eq_by_cmp tuple_cmp q r ≡ b → b ≡ false) [
          | true ↦ λ same. absurd (d (sym (same_row q r same)))
          | false ↦ λ _. refl
        ] refl

    to : (q : List Value) → ((i : ℕ) × (get new i ≡ Some q)) → (has_row (rows_of old) q && not (eq_by_cmp tuple_cmp q r)) ≡ true
    to q at =
        let differs : at.0 ≢ k = λ e. stands_none q (sym at.1 ∙ ap (get new) e ∙ updates.changed) in
        let stood : get old at.0 ≡ Some q = sym (updates.others at.0 differs) ∙ at.1 in
        and_both (has_row (rows_of old) q) (eq_by_cmp tuple_cmp q r) (stands_from old at.0 q stood) (apart q (λ same. differs (alone at.0 k q stood (found ∙ ap Some same))))

    from : (q : List Value) → (has_row (rows_of old) q && not (eq_by_cmp tuple_cmp q r)) ≡ true → has_row (rows_of new) q ≡ true
    from q h =
        elim (has_row (rows_of old) q) as (λ b. has_row (rows_of old) q ≡ b → (b && not (eq_by_cmp tuple_cmp q r)) ≡ true → has_row (rows_of new) q ≡ true) [
          | true ↦ λ there f.
              let at = stands_to old q there in
              let differs : at.0 ≢ k = λ e.
              let same : q ≡ r = Some-injective q r (sym at.1 ∙ ap (get old) e ∙ found) in
              true≢false (sym f ∙ ap not (ap (λ x. eq_by_cmp tuple_cmp q x) (sym same) ∙ itself q)) in
              stands_from new at.0 q (updates.others at.0 differs ∙ at.1)
          | false ↦ λ _ f. absurd (true≢false (sym f))
        ] refl h

-- ---- rows that move, one after the other

-- each of these rows is new where those before it stand
abbrev pub AreNew : List (List Value) → List (ℕ × List Value) → Type 0
AreNew rows [] = Unit {0}
AreNew rows (e ∷ es) = (has_row rows e.1 ≡ false) × AreNew (with_item tuple_cmp rows e.1) es

-- the rows of a slab are new, one after the other, where none of them stands
are_new_from : (rows : List (List Value)) (first : ℕ) (slots : List (Option (List Value)))
    → ((i : ℕ) (q : List Value) → get_or slots i None ≡ Some q → has_row rows q ≡ false)
    → ((i j : ℕ) (q : List Value) → get_or slots i None ≡ Some q → get_or slots j None ≡ Some q → i ≡ j)
    → AreNew rows (entries_from first slots)
are_new_from rows first [] new alone = tt
are_new_from rows first (None ∷ slots) new alone = are_new_from rows (first + 1) slots (λ i q f. new (suc i) q f) (λ i j q f g. omega (arith, alone (suc i) (suc j) q f g))
are_new_from rows first (Some r ∷ slots) new alone = (
  new 0 r refl,
  are_new_from (with_item tuple_cmp rows r) (first + 1) slots
      (λ i q f. has-with_item rows r q ∙ neither (eq_by_cmp tuple_cmp q r) (has_row rows q) (apart i q f) (new (suc i) q f))
      (λ i j q f g. omega (arith, alone (suc i) (suc j) q f g)),
)
  where
    neither : (a b : Bool) → a ≡ false → b ≡ false → (a || b) ≡ false
    neither true b e f = absurd (true≢false e)
    neither false b e f = f

    apart : (i : ℕ) (q : List Value) → get_or slots i None ≡ Some q → eq_by_cmp tuple_cmp q r ≡ false
    apart i q f =
        elim (eq_by_cmp tuple_cmp q r) as (λ b. eq_by_cmp tuple_cmp q r ≡ b → b ≡ false) [
          | true ↦ λ same. absurd (omega (arith, alone 0 (suc i) q (ap Some (sym (same_row q r same))) f))
          | false ↦ λ _. refl
        ] refl

pub are_new : (slab : Slab (List Value)) → IsAlone slab → AreNew [] (entries slab)
are_new slab alone = are_new_from [] 0 slab.slots (λ i q f. refl) alone

-- a row that doesn't stand can be taken out
pub absent_stays : (rows : List (List Value)) (q : List Value) → Ascends rows → has_row rows q ≡ false → without_item tuple_cmp rows q ≡ rows
absent_stays rows q s absent =
    same_rows (without_item tuple_cmp rows q) rows (Ascends-without_item rows q s) s
    (λ r. has-without_item rows q r ∙ kept r)
  where
    and_true : (a : Bool) → (a && true) ≡ a
    and_true true = refl
    and_true false = refl

    kept : (r : List Value) → (has_row rows r && not (eq_by_cmp tuple_cmp r q)) ≡ has_row rows r
    kept r =
        elim (eq_by_cmp tuple_cmp r q) as (λ b. eq_by_cmp tuple_cmp r q ≡ b → (has_row rows r && not b) ≡ has_row rows r) [
          | true ↦ λ same.
              let none : has_row rows r ≡ false = ap (has_row rows) (same_row r q same) ∙ absent in
              ap (λ b. b && false) none ∙ sym none
          | false ↦ λ _. and_true (has_row rows r)
        ] refl
