-- What happens to a pattern's tuples can always be told: each event is tested.
use Rattle.std.proofs.Common.{◌≡◌, ◌≢◌, ℕ, suc, length, Bool, true, false, not, ◌&&◌, List, [], ◌∷◌, refl, sym, ap, subst, ◌∙◌, arith}
use mathlib.Core.Bool.{false≢true}
use Rattle.std.specs.Prelude.{nat_eq, filter, Contains}
use Rattle.std.specs.List.{list_any}
use Rattle.std.specs.Bool.{Decides}
use Rattle.std.specs.Ordering.{eq_by_cmp}
use Rattle.std.proofs.lemmas.Bool.{and_parts, and_from}
use Rattle.std.proofs.lemmas.Bool.Decides.{nat_tests}
use Rattle.std.proofs.lemmas.List.Kept.{IsStrictlySortedBy-filter}
use Rattle.vt_base.specs.Order.{value_cmp, tuple_cmp}
use Rattle.vt_base.specs.Rows.{Ascends, has_row}
use Rattle.vt_base.specs.Inside.OrderLaws.{IsTotalOrder-value_cmp}
use Rattle.vt_base.specs.declared.numbers.ObjId.{ObjId}
use Rattle.vt_base.specs.declared.value.Value.{Value}
use Rattle.vt_base.specs.declared.value.Value.TheVariants.{Bool as Flag, Int, Text, Enum, Obj}
use Rattle.vt_base.proofs.OrderLemmas.{exact-value_cmp, eq_by_cmp-Decides}
use Rattle.vt_model.specs.Model.{Model}
use Rattle.vt_model.specs.Assigning.{values_of}
use Rattle.vt_model.specs.declared.model.AttributeValue.{AttributeValue}
use Rattle.vt_query.specs.declared.program.Pattern.{Pattern}
use Rattle.vt_direct.proofs.ListLemmas.{some_in, any_in}
use Rattle.vt_history.specs.Events.{AreThose, AreEvents, IsCreated, IsUpdated, HasChanged}
use Rattle.vt_history.specs.declared.report.PatternEvents.{PatternEvents}
use Rattle.vt_cli.specs.Replies.{Names, AreEventTexts}
use Rattle.vt_cli.specs.Inside.Marks.{all_marked}
use Rattle.vt_cli.proofs.EventLemmas.{has-filter, not_false, false_not, Each, AreEventTexts-marked}

-- ---- whether two objects have the same values

abbrev same_value : AttributeValue → AttributeValue → Bool
same_value t u = nat_eq t.object.0 u.object.0 && (nat_eq t.attribute.0 u.attribute.0 && eq_by_cmp value_cmp t.value u.value)

nat_eq-is : (m n : ℕ) → nat_eq m n ≡ true → m ≡ n
nat_eq-is m n e = grind (arith, nat_tests)

nat_eq-self : (n : ℕ) → nat_eq n n ≡ true
nat_eq-self n = grind (arith, nat_tests)

same_value-is : (t u : AttributeValue) → same_value t u ≡ true → t ≡ u
same_value-is t u e =
    let first = and_parts (nat_eq t.object.0 u.object.0) (nat_eq t.attribute.0 u.attribute.0 && eq_by_cmp value_cmp t.value u.value) e in
    let rest = and_parts (nat_eq t.attribute.0 u.attribute.0) (eq_by_cmp value_cmp t.value u.value) first.1 in
    let object = nat_eq-is t.object.0 u.object.0 first.0 in
    let attribute = nat_eq-is t.attribute.0 u.attribute.0 rest.0 in
    let value = (eq_by_cmp-Decides IsTotalOrder-value_cmp exact-value_cmp t.value u.value).0 rest.1 in
    λ i. record { object = record { 0 = object i }; attribute = record { 0 = attribute i }; value = value i }

same_value-self : (t : AttributeValue) → same_value t t ≡ true
same_value-self t =
    and_from (nat_eq t.object.0 t.object.0) (nat_eq t.attribute.0 t.attribute.0 && eq_by_cmp value_cmp t.value t.value) (nat_eq-self t.object.0)
    (and_from (nat_eq t.attribute.0 t.attribute.0) (eq_by_cmp value_cmp t.value t.value) (nat_eq-self t.attribute.0)
    ((eq_by_cmp-Decides IsTotalOrder-value_cmp exact-value_cmp t.value t.value).1 refl))

abbrev same_values : List AttributeValue → List AttributeValue → Bool
same_values [] [] = true
same_values (t ∷ ts) (u ∷ us) = same_value t u && same_values ts us
same_values ts us = false

same_values-is : (ts us : List AttributeValue) → same_values ts us ≡ true → ts ≡ us
same_values-is [] [] e = refl
same_values-is [] (u ∷ us) e = absurd (false≢true e)
same_values-is (t ∷ ts) [] e = absurd (false≢true e)
same_values-is (t ∷ ts) (u ∷ us) e =
    let parts = and_parts (same_value t u) (same_values ts us) e in
    ap (λ x. x ∷ ts) (same_value-is t u parts.0) ∙ ap (λ xs. u ∷ xs) (same_values-is ts us parts.1)

same_values-self : (ts : List AttributeValue) → same_values ts ts ≡ true
same_values-self [] = refl
same_values-self (t ∷ ts) = and_from (same_value t t) (same_values ts ts) (same_value-self t) (same_values-self ts)

-- ---- tables that ascend

abbrev pub AllAscend : List (List (List Value)) → Type 0
AllAscend [] = Unit {0}
AllAscend (table ∷ tables) = Ascends table × AllAscend tables

-- ---- whether an object of a tuple has other values

module _ (before after : Model) where
  abbrev is_other : Value → Bool
  is_other (Obj o) = not (same_values (values_of before o) (values_of after o))
  is_other v = false

  is_other-object : (v : Value) → is_other v ≡ true → (o : ObjId) × (v ≡ Obj o) × (values_of before o ≢ values_of after o)
  is_other-object (Obj o) e = (
    o,
    refl,
    λ same. false≢true (sym (false_not (same_values (values_of before o) (values_of after o)) e)
        ∙ ap (λ ts. same_values (values_of before o) ts) (sym same) ∙ same_values-self (values_of before o)),
  )
  is_other-object (Flag b) e = absurd (false≢true e)
  is_other-object (Int n) e = absurd (false≢true e)
  is_other-object (Text s) e = absurd (false≢true e)
  is_other-object (Enum m l) e = absurd (false≢true e)

  other_test : (b : Bool) (ts us : List AttributeValue) → same_values ts us ≡ b → ts ≢ us → not b ≡ true
  other_test true ts us e other = absurd (other (same_values-is ts us e))
  other_test false ts us e other = refl

  HasChanged-Decides : (row : List Value) → Decides (list_any is_other row) (HasChanged before after row)
  HasChanged-Decides row = (
    (λ h.
        let found = some_in is_other row h in
        let object = is_other-object found.0 found.2 in
        record { object = object.0; among = subst (Contains row) object.1 found.1; other = object.2 }),
    (λ changed. any_in is_other row (Obj changed.object) changed.among
        (other_test (same_values (values_of before changed.object) (values_of after changed.object)) (values_of before changed.object) (values_of after changed.object) refl changed.other)),
  )

  -- ---- the events of a pattern

  module _ (old new : List (List Value)) (rise : Ascends old) (rise_too : Ascends new) where
    those_without : (a b : List (List Value)) → Ascends b → AreThose (IsCreated a b) (filter (λ row. not (has_row a row)) b)
    those_without a b up = record {
      ascend = IsStrictlySortedBy-filter tuple_cmp (λ row. not (has_row a row)) b up;
      each = λ row. (
        (λ h.
            let parts = and_parts (has_row b row) (not (has_row a row)) (sym (has-filter (λ r. not (has_row a r)) b row) ∙ h) in
            (false_not (has_row a row) parts.1, parts.0)),
        (λ is. has-filter (λ r. not (has_row a r)) b row ∙ and_from (has_row b row) (not (has_row a row)) is.1 (not_false (has_row a row) is.0)),
      );
    }

    abbrev is_updated : List Value → Bool
    is_updated row = has_row old row && list_any is_other row

    those_updated : AreThose (IsUpdated before after old new) (filter is_updated new)
    those_updated = record {
      ascend = IsStrictlySortedBy-filter tuple_cmp is_updated new rise_too;
      each = λ row. (
        (λ h.
            let parts = and_parts (has_row new row) (is_updated row) (sym (has-filter is_updated new row) ∙ h) in
            let rest = and_parts (has_row old row) (list_any is_other row) parts.1 in
            (rest.0, parts.0, (HasChanged-Decides row).0 rest.1)),
        (λ is. has-filter is_updated new row
            ∙ and_from (has_row new row) (is_updated row) is.1
            (and_from (has_row old row) (list_any is_other row) is.0 ((HasChanged-Decides row).1 is.2))),
      );
    }

    abbrev events_of : PatternEvents
    events_of = record {
      pattern = record { 0 = 0 };
      added = record { items = filter (λ row. not (has_row old row)) new; spare = 0 };
      removed = record { items = filter (λ row. not (has_row new row)) old; spare = 0 };
      updated = record { items = filter is_updated new; spare = 0 };
    }

    AreEvents-events_of : AreEvents before after old new events_of
    AreEvents-events_of = record {
      created = those_without old new rise_too;
      deleted = those_without new old rise;
      updated = those_updated;
    }

  -- ---- all patterns

  some_each : (olds news : List (List (List Value))) → length olds ≡ length news → AllAscend olds → AllAscend news
      → (events : List PatternEvents) × (length events ≡ length news) × Each before after olds news events
  some_each [] [] count up too = ([], refl, tt)
  some_each [] (new ∷ news) count up too = absurd (omega (arith, count))
  some_each (old ∷ olds) [] count up too = absurd (omega (arith, count))
  some_each (old ∷ olds) (new ∷ news) count up too =
      let rest = some_each olds news (omega (arith, count)) up.1 too.1 in
      (events_of old new up.0 too.0 ∷ rest.0, ap suc rest.1, (AreEvents-events_of old new up.0 too.0, rest.2))

  pub some_events : (names : Names) (patterns : List Pattern) (olds news : List (List (List Value)))
      → length olds ≡ length patterns → length news ≡ length patterns → AllAscend olds → AllAscend news
      → (text : List ℕ) × AreEventTexts names before after patterns olds news text
  some_events names patterns olds news count count_too up too =
      let made = some_each olds news (count ∙ sym count_too) up too in
      (all_marked names patterns made.0, AreEventTexts-marked names before after patterns olds news made.0 (sym count_too ∙ sym made.1) made.2)
