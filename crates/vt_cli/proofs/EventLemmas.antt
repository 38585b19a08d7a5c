-- What happened to the tuples of patterns: it is one set, there is one, and the lines tell it.
use Rattle.std.proofs.Common.{◌≡◌, ◌⊎◌, inl, inr, ℕ, suc, length, Bool, true, false, not, ◌&&◌, ◌||◌, List, [], ◌∷◌, ◌++◌, Some, refl, sym, ap, subst, ◌∙◌, arith}
use Rattle.std.specs.Prelude.{codes, filter, flat_map, slice_get, Contains, if◌then◌else◌}
use Rattle.std.specs.Ordering.{eq_by_cmp}
use Rattle.std.proofs.lemmas.Cmp.{eq_by_cmp_equiv}
use Rattle.std.proofs.lemmas.List.Folds.{list_any-append}
use Rattle.std.proofs.lemmas.Map.Made.{is_member-filter}
use Rattle.vt_facts.proofs.BoolLemmas.{or-false}
use Rattle.vt_base.specs.Order.{tuple_cmp}
use Rattle.vt_base.specs.Rows.{Ascends, has_row, IsSetOf}
use Rattle.vt_base.specs.Written.{tuple_text}
use Rattle.vt_base.specs.Inside.OrderLaws.{IsTotalOrder-tuple_cmp}
use Rattle.vt_base.specs.declared.value.Value.{Value}
use Rattle.vt_base.proofs.OrderLemmas.{exact-tuple_cmp, eq_by_cmp-Decides}
use Rattle.vt_base.proofs.RowsLemmas.{ascends-none, same_list}
use Rattle.vt_delta.proofs.DeltaLemmas.{has-inserted, Ascends-inserted}
use Rattle.vt_model.specs.Model.{Model}
use Rattle.vt_direct.proofs.ListLemmas.{some_in, any_in}
use Rattle.vt_query.specs.Holding.{table_of}
use Rattle.vt_query.specs.declared.program.Pattern.{Pattern}
use Rattle.vt_history.specs.Events.{AreThose, AreEvents}
use Rattle.vt_history.specs.declared.report.PatternEvents.{PatternEvents}
use Rattle.vt_cli.specs.Replies.{Names, HasEvent, event_mark, event_line, IsEventText, WhereShown, AreEventTexts}
use Rattle.vt_cli.specs.Inside.Marks.{happened, event_rows, mark, marked_line, marked_lines, all_marked}

-- ---- tests that agree

same_test : (a b : Bool) → (a ≡ true → b ≡ true) → (b ≡ true → a ≡ true) → a ≡ b
same_test true b f g = sym (f refl)
same_test false true f g = g refl
same_test false false f g = refl

or_parts : (a b : Bool) → (a || b) ≡ true → (a ≡ true) ⊎ (b ≡ true)
or_parts true b e = inl refl
or_parts false b e = inr e

or_left : (a b : Bool) → a ≡ true → (a || b) ≡ true
or_left true b e = refl
or_left false b e = cc

or_right : (a b : Bool) → b ≡ true → (a || b) ≡ true
or_right true b e = refl
or_right false b e = e

or_grouped : (a b c : Bool) → ((a || b) || c) ≡ (a || (b || c))
or_grouped true b c = refl
or_grouped false b c = refl

pub not_false : (a : Bool) → a ≡ false → not a ≡ true
not_false true e = cc
not_false false e = refl

pub false_not : (a : Bool) → not a ≡ true → a ≡ false
false_not true e = cc
false_not false e = refl

-- ---- sets of tuples of which something is true

-- there is one at most
pub one_set : (Is : List Value → Type 0) (rows others : List (List Value)) → AreThose Is rows → AreThose Is others → rows ≡ others
one_set Is rows others those too =
    same_list tuple_cmp IsTotalOrder-tuple_cmp exact-tuple_cmp rows others those.ascend too.ascend
    (λ row. same_test (has_row rows row) (has_row others row) (λ h. (too.each row).1 ((those.each row).0 h)) (λ h. (those.each row).1 ((too.each row).0 h)))

-- a row that stands in a list is one of its items
pub has-contains : (rows : List (List Value)) (row : List Value) → has_row rows row ≡ true → Contains rows row
has-contains rows row h =
    let found = some_in (eq_by_cmp tuple_cmp row) rows h in
    subst (Contains rows) (sym ((eq_by_cmp-Decides IsTotalOrder-tuple_cmp exact-tuple_cmp row found.0).0 found.2)) found.1

pub contains-has : (rows : List (List Value)) (row : List Value) → Contains rows row → has_row rows row ≡ true
contains-has rows row there =
    any_in (eq_by_cmp tuple_cmp row) rows row there ((eq_by_cmp-Decides IsTotalOrder-tuple_cmp exact-tuple_cmp row row).1 refl)

-- the rows of a list that pass a test
pub has-filter : (p : List Value → Bool) (rows : List (List Value)) (row : List Value) → has_row (filter p rows) row ≡ (has_row rows row && p row)
has-filter p rows row =
    is_member-filter (eq_by_cmp_equiv IsTotalOrder-tuple_cmp) p row
    (λ r same. ap p ((eq_by_cmp-Decides IsTotalOrder-tuple_cmp exact-tuple_cmp row r).0 same)) rows

-- ---- the set of what happened

-- a tuple of the set stands in what happened
pub has-event_rows : (e : PatternEvents) (row : List Value) → has_row (event_rows e) row ≡ has_row (happened e) row
has-event_rows e row = has-inserted (happened e) [] row ∙ or-false (has_row (happened e) row)

Ascends-event_rows : (e : PatternEvents) → Ascends (event_rows e)
Ascends-event_rows e = Ascends-inserted (happened e) [] (ascends-none tuple_cmp)

-- a set of what happened is the set
pub event_rows_set : (e : PatternEvents) (given rows : List (List Value)) → given ≡ happened e → IsSetOf given rows → rows ≡ event_rows e
event_rows_set e given rows is set =
    same_list tuple_cmp IsTotalOrder-tuple_cmp exact-tuple_cmp rows (event_rows e) set.ascends (Ascends-event_rows e)
    (λ row. set.same row ∙ ap (λ g. has_row g row) is ∙ sym (has-event_rows e row))

-- ---- a tuple's mark

test_came : (a o n : Bool) → (a ≡ true → (o ≡ false) × (n ≡ true)) → ((o ≡ false) × (n ≡ true) → a ≡ true) → a ≡ (n && not o)
test_came true true n f g = absurd (let none : ⊥ = let e = (f refl).0 in cc in none)
test_came true false true f g = refl
test_came true false false f g = absurd (let none : ⊥ = let e = (f refl).1 in cc in none)
test_came false true true f g = refl
test_came false true false f g = refl
test_came false false true f g = g (refl, refl)
test_came false false false f g = refl

module _ (before after : Model) (old new : List (List Value)) (e : PatternEvents) (are : AreEvents before after old new e) where
  came : (row : List Value) → has_row e.added.items row ≡ (has_row new row && not (has_row old row))
  came row = test_came (has_row e.added.items row) (has_row old row) (has_row new row) (are.created.each row).0 (are.created.each row).1

  went : (row : List Value) → has_row e.removed.items row ≡ (has_row old row && not (has_row new row))
  went row = test_came (has_row e.removed.items row) (has_row new row) (has_row old row) (are.deleted.each row).0 (are.deleted.each row).1

  mark-event_mark : (row : List Value) → mark e row ≡ event_mark old new row
  mark-event_mark row =
      ap (λ b. if b then codes "+ " else if has_row e.removed.items row then codes "- " else codes "~ ") (came row)
      ∙ ap (λ b. if has_row new row && not (has_row old row) then codes "+ " else if b then codes "- " else codes "~ ") (went row)

  -- ---- the set of what happened

  has-happened : (row : List Value) → has_row (happened e) row ≡ (has_row e.added.items row || (has_row e.removed.items row || has_row e.updated.items row))
  has-happened row =
      list_any-append (eq_by_cmp tuple_cmp row) (e.added.items ++ e.removed.items) e.updated.items
      ∙ ap (λ b. b || has_row e.updated.items row) (list_any-append (eq_by_cmp tuple_cmp row) e.added.items e.removed.items)
      ∙ or_grouped (has_row e.added.items row) (has_row e.removed.items row) (has_row e.updated.items row)

  happened-HasEvent : (row : List Value) → has_row (happened e) row ≡ true → HasEvent before after old new row
  happened-HasEvent row h =
      elim (or_parts (has_row e.added.items row) (has_row e.removed.items row || has_row e.updated.items row) (sym (has-happened row) ∙ h)) [
        | inl a ↦ inl ((are.created.each row).0 a)
        | inr rest ↦ elim (or_parts (has_row e.removed.items row) (has_row e.updated.items row) rest) [
          | inl b ↦ inr (inl ((are.deleted.each row).0 b))
          | inr c ↦ inr (inr ((are.updated.each row).0 c))
        ]
      ]

  HasEvent-happened : (row : List Value) → HasEvent before after old new row → has_row (happened e) row ≡ true
  HasEvent-happened row (inl a) = has-happened row ∙ or_left (has_row e.added.items row) (has_row e.removed.items row || has_row e.updated.items row) ((are.created.each row).1 a)
  HasEvent-happened row (inr (inl b)) =
      has-happened row ∙ or_right (has_row e.added.items row) (has_row e.removed.items row || has_row e.updated.items row)
      (or_left (has_row e.removed.items row) (has_row e.updated.items row) ((are.deleted.each row).1 b))
  HasEvent-happened row (inr (inr c)) =
      has-happened row ∙ or_right (has_row e.added.items row) (has_row e.removed.items row || has_row e.updated.items row)
      (or_right (has_row e.removed.items row) (has_row e.updated.items row) ((are.updated.each row).1 c))

  -- it happened to tuples of the tables
  pub happened_within : (row : List Value) → has_row (happened e) row ≡ true → (has_row old row ≡ true) ⊎ (has_row new row ≡ true)
  happened_within row h = elim (happened-HasEvent row h) [
    | inl a ↦ inr a.1
    | inr rest ↦ elim rest [
      | inl b ↦ inl b.1
      | inr c ↦ inl c.0
    ]
  ]

  those-event_rows : AreThose (HasEvent before after old new) (event_rows e)
  those-event_rows = record {
    ascend = Ascends-event_rows e;
    each = λ row. (
      (λ h. happened-HasEvent row (sym (has-event_rows e row) ∙ h)),
      (λ h. has-event_rows e row ∙ HasEvent-happened row h),
    );
  }

  -- the lines over what happened are those of the tables
  IsEventText-marked : (names : Names) (p : Pattern) → IsEventText names p before after old new (flat_map (marked_line names p e) (event_rows e))
  IsEventText-marked names p = record {
    rows = event_rows e;
    those = those-event_rows;
    is = ap (λ f. flat_map f (event_rows e))
        (λ i row. codes "  " ++ mark-event_mark row i ++ p.name ++ tuple_text names.enums names.objects row ++ codes "\n");
  }

-- ---- all patterns

-- each pattern with what happened to it
abbrev pub Each : Model → Model → List (List (List Value)) → List (List (List Value)) → List PatternEvents → Type 0
Each before after [] [] [] = Unit {0}
Each before after (old ∷ olds) (new ∷ news) (e ∷ events) = AreEvents before after old new e × Each before after olds news events
Each before after olds news events = ⊥

shown_lines : (b : Bool) (Is : List ℕ → Type 0) (text : List ℕ) → Is text → WhereShown b Is (if b then text else [])
shown_lines true Is text is = is
shown_lines false Is text is = refl

pub AreEventTexts-marked : (names : Names) (before after : Model) (patterns : List Pattern) (olds news : List (List (List Value))) (events : List PatternEvents)
    → length patterns ≡ length events → Each before after olds news events
    → AreEventTexts names before after patterns olds news (all_marked names patterns events)
AreEventTexts-marked names before after [] [] [] [] count each = refl
AreEventTexts-marked names before after [] [] [] (e ∷ events) count each = absurd each
AreEventTexts-marked names before after [] [] (new ∷ news) events count each = refl
AreEventTexts-marked names before after [] (old ∷ olds) news events count each = refl
AreEventTexts-marked names before after (p ∷ patterns) olds news [] count each = absurd (omega (arith, count))
AreEventTexts-marked names before after (p ∷ patterns) [] [] (e ∷ events) count each = absurd each
AreEventTexts-marked names before after (p ∷ patterns) [] (new ∷ news) (e ∷ events) count each = absurd each
AreEventTexts-marked names before after (p ∷ patterns) (old ∷ olds) [] (e ∷ events) count each = absurd each
AreEventTexts-marked names before after (p ∷ patterns) (old ∷ olds) (new ∷ news) (e ∷ events) count each = (
  marked_lines names p e,
  all_marked names patterns events,
  shown_lines p.shown (IsEventText names p before after old new) (flat_map (marked_line names p e) (event_rows e)) (IsEventText-marked before after old new e each.0 names p),
  AreEventTexts-marked names before after patterns olds news events (omega (arith, count)) each.1,
  refl,
)

-- from what is said at each number
pub each_from : (before after : Model) (olds news : List (List (List Value))) (events : List PatternEvents)
    → length events ≡ length news → length olds ≡ length news
    → ((n : ℕ) (e : PatternEvents) → slice_get events n ≡ Some e → AreEvents before after (table_of olds (record { 0 = n })) (table_of news (record { 0 = n })) e)
    → Each before after olds news events
each_from before after [] [] [] count too at = tt
each_from before after [] [] (e ∷ events) count too at = absurd (omega (arith, count))
each_from before after [] (new ∷ news) events count too at = absurd (omega (arith, too))
each_from before after (old ∷ olds) [] events count too at = absurd (omega (arith, too))
each_from before after (old ∷ olds) (new ∷ news) [] count too at = absurd (omega (arith, count))
each_from before after (old ∷ olds) (new ∷ news) (e ∷ events) count too at =
    (at 0 e refl, each_from before after olds news events (omega (arith, count)) (omega (arith, too)) (λ n f is. at (suc n) f is))

-- ---- one text of events at most

one_shown_text : (b : Bool) (Is : List ℕ → Type 0) (text other : List ℕ) → (Is text → Is other → text ≡ other)
    → WhereShown b Is text → WhereShown b Is other → text ≡ other
one_shown_text true Is text other one a b = one a b
one_shown_text false Is text other one a b = a ∙ sym b

one_event_text : (names : Names) (p : Pattern) (before after : Model) (old new : List (List Value)) (text other : List ℕ)
    → IsEventText names p before after old new text → IsEventText names p before after old new other → text ≡ other
one_event_text names p before after old new text other a b =
    a.is ∙ ap (λ rows. flat_map (event_line names p old new) rows) (one_set (HasEvent before after old new) a.rows b.rows a.those b.those) ∙ sym b.is

pub one_events : (names : Names) (before after : Model) (patterns : List Pattern) (olds news : List (List (List Value))) (text other : List ℕ)
    → AreEventTexts names before after patterns olds news text → AreEventTexts names before after patterns olds news other → text ≡ other
one_events names before after [] olds news text other a b = a ∙ sym b
one_events names before after (p ∷ patterns) [] news text other a b = a ∙ sym b
one_events names before after (p ∷ patterns) (old ∷ olds) [] text other a b = a ∙ sym b
one_events names before after (p ∷ patterns) (old ∷ olds) (new ∷ news) text other a b =
    let first = one_shown_text p.shown (IsEventText names p before after old new) a.0 b.0 (one_event_text names p before after old new a.0 b.0) a.2 b.2 in
    let rest = one_events names before after patterns olds news a.1 b.1 a.3 b.3 in
    a.4 ∙ ap (λ x. x ++ a.1) first ∙ ap (λ x. b.0 ++ x) rest ∙ sym b.4
