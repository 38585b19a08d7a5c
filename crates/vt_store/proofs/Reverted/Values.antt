-- Values that go one by one, and values that come back.
use Rattle.std.proofs.Common.{◌≡◌, List, [], ◌∷◌, refl, sym, ap, subst, ◌∙◌, inl, inr, Bool, true, not}
use Rattle.std.specs.Prelude.{Contains, filter, fold}
use Rattle.std.specs.BTreeSet.{insert_key}
use Rattle.std.specs.List.Sorted.{IsStrictlySortedBy}
use Rattle.std.proofs.lemmas.Bool.{both_ways, false_from_ne_true, not_from_false}
use Rattle.std.proofs.lemmas.List.Kept.{IsStrictlySortedBy-filter}
use Rattle.vt_model.specs.Model.{Model}
use Rattle.vt_model.specs.Assigning.{value_order, is_value_of}
use Rattle.vt_model.specs.declared.model.AttributeValue.{AttributeValue}
use Rattle.vt_facts.proofs.MemberLemmas.{Contains-head, Contains-behind, Contains-filter, Contains-from_filter, Contains-insert_key_cases, Contains-insert_key_old}
use Rattle.vt_facts.proofs.ChosenLemmas.{filter-agree}
use Rattle.vt_facts.proofs.OrderedLemmas.{IsStrictlySortedBy-insert_key}
use Rattle.vt_model.proofs.Valid.Defaults.{is_value_of-yes}
use Rattle.vt_store.specs.Edits.{same_value, without}
use Rattle.vt_store.specs.Inside.Assigned.{without_values, with_values}
use Rattle.vt_store.proofs.EditLemmas.{known}
use Rattle.vt_store.proofs.SameLemmas.{Decides-same_value}
use Rattle.vt_store.proofs.AssignLemmas.{one_value}
use Rattle.vt_store.proofs.Linking.Lists.{without-none, without-cons}
use Rattle.vt_facts.proofs.RisingLemmas.{same_items, tied_is, Contains-insert_key_there}
use Rattle.vt_graph.proofs.ValueLemmas.{value_order_total}

-- all are values of one list that rises
module _ (whole : List AttributeValue) (rise : IsStrictlySortedBy value_order whole) where
  -- of its values one of an object and an attribute is the same as another of them
  is_value_of-same : (t u : AttributeValue) → Contains whole t → Contains whole u → is_value_of t.object t.attribute u ≡ same_value u t
  is_value_of-same t u one other = elim (known (is_value_of t.object t.attribute u)) [
    | inl own ↦ own ∙ sym ((Decides-same_value u t).1 (one_value whole rise t.object t.attribute u t other one own (is_value_of-yes t.object t.attribute t refl refl)))
    | inr apart ↦ apart ∙ sym (false_from_ne_true (same_value u t)
        (λ e. both_ways (is_value_of t.object t.attribute u) apart
        (subst (λ v. is_value_of t.object t.attribute v ≡ true) (sym ((Decides-same_value u t).0 e)) (is_value_of-yes t.object t.attribute t refl refl))))
  ]

  -- ---- values that go

  -- the values of other objects and attributes are the other values
  value_gone : (t : AttributeValue) (values : List AttributeValue) → Contains whole t → ((u : AttributeValue) → Contains values u → Contains whole u)
      → filter (λ u. not (is_value_of t.object t.attribute u)) values ≡ filter (λ u. not (same_value u t)) values
  value_gone t values one among = filter-agree (λ u. not (is_value_of t.object t.attribute u)) (λ u. not (same_value u t)) values (λ u there. ap not (is_value_of-same t u one (among u there)))

  -- values that are taken one by one are left out
  values_gone : (g : Model) (gone values : List AttributeValue) → ((t : AttributeValue) → Contains gone t → Contains whole t) → ((t : AttributeValue) → Contains values t → Contains whole t)
      → without_values (record g { values = values }) gone ≡ record g { values = without same_value gone values }
  values_gone g [] values went among = ap (λ vs. record g { values = vs }) (sym (without-none same_value values))
  values_gone g (t ∷ gone) values went among =
      values_gone g gone (filter (λ u. not (is_value_of t.object t.attribute u)) values) (λ u later. went u (Contains-behind t u gone later))
      (λ u there. among u (Contains-from_filter (λ v. not (is_value_of t.object t.attribute v)) values u there).0)
      ∙ ap (λ vs. record g { values = vs })
      (ap (without same_value gone) (value_gone t values (went t (Contains-head t gone)) among) ∙ without-cons same_value t gone values)

  -- ---- values that come

  -- a value goes to its place, for none is in its stead
  value_comes : (t : AttributeValue) (values : List AttributeValue) → IsStrictlySortedBy value_order values → Contains whole t → ((u : AttributeValue) → Contains values u → Contains whole u)
      → insert_key value_order (filter (λ u. not (is_value_of t.object t.attribute u)) values) t ≡ insert_key value_order values t
  value_comes t values values_rise one among =
      same_items value_order value_order_total (insert_key value_order others t) (insert_key value_order values t)
      (IsStrictlySortedBy-insert_key value_order value_order_total others t (IsStrictlySortedBy-filter value_order other values values_rise))
      (IsStrictlySortedBy-insert_key value_order value_order_total values t values_rise) there back
    where
      other : AttributeValue → Bool
      other u = not (is_value_of t.object t.attribute u)

      others : List AttributeValue
      others = filter other values

      others_among : (u : AttributeValue) → Contains others u → Contains values u
      others_among u kept = (Contains-from_filter other values u kept).0

      there : (u : AttributeValue) → Contains (insert_key value_order others t) u → Contains (insert_key value_order values t) u
      there u at = elim (Contains-insert_key_cases value_order t others u at) [
        | inl old ↦ Contains-insert_key_old value_order t values u (others_among u old)
        | inr is ↦ subst (Contains (insert_key value_order values t)) is
            (Contains-insert_key_there value_order t values (λ v old tied. tied_is value_order value_order_total whole rise t v one (among v old) tied))
      ]

      itself : Contains (insert_key value_order others t) t
      itself = Contains-insert_key_there value_order t others (λ v old tied. tied_is value_order value_order_total whole rise t v one (among v (others_among v old)) tied)

      back : (u : AttributeValue) → Contains (insert_key value_order values t) u → Contains (insert_key value_order others t) u
      back u at = elim (Contains-insert_key_cases value_order t values u at) [
        | inl old ↦ elim (known (is_value_of t.object t.attribute u)) [
          | inl own ↦ subst (Contains (insert_key value_order others t))
              (one_value whole rise t.object t.attribute t u one (among u old) (is_value_of-yes t.object t.attribute t refl refl) own) itself
          | inr apart ↦ Contains-insert_key_old value_order t others u (Contains-filter other values u old (not_from_false (is_value_of t.object t.attribute u) apart))
        ]
        | inr is ↦ subst (Contains (insert_key value_order others t)) is itself
      ]

  -- values that are put one by one go to their places
  values_come : (g : Model) (come values : List AttributeValue) → IsStrictlySortedBy value_order values
      → ((t : AttributeValue) → Contains come t → Contains whole t) → ((t : AttributeValue) → Contains values t → Contains whole t)
      → with_values (record g { values = values }) come ≡ record g { values = fold (insert_key value_order) values come }
  values_come g [] values values_rise came among = refl
  values_come g (t ∷ come) values values_rise came among =
      ap (λ vs. with_values (record g { values = vs }) come) (value_comes t values values_rise one among)
      ∙ values_come g come (insert_key value_order values t) (IsStrictlySortedBy-insert_key value_order value_order_total values t values_rise)
      (λ u later. came u (Contains-behind t u come later))
      (λ u there. elim (Contains-insert_key_cases value_order t values u there) [ inl old ↦ among u old | inr is ↦ subst (Contains whole) is one ])
    where
      one : Contains whole t
      one = came t (Contains-head t come)

-- values of a model that rises, taken one by one
pub without_values_is : (g : Model) (gone : List AttributeValue) → IsStrictlySortedBy value_order g.values → ((t : AttributeValue) → Contains gone t → Contains g.values t)
    → without_values g gone ≡ record g { values = without same_value gone g.values }
without_values_is g gone rise went = values_gone g.values rise g gone g.values went (λ t there. there)

-- values of a list that rises, of which a model has some, put one by one
pub with_values_is : (g : Model) (come whole : List AttributeValue) → IsStrictlySortedBy value_order whole → IsStrictlySortedBy value_order g.values
    → ((t : AttributeValue) → Contains come t → Contains whole t) → ((t : AttributeValue) → Contains g.values t → Contains whole t)
    → with_values g come ≡ record g { values = fold (insert_key value_order) g.values come }
with_values_is g come whole rise values_rise came among = values_come whole rise g come g.values values_rise came among
