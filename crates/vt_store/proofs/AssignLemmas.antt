-- What giving a value to an attribute, or taking it, changes in a model.
use Rattle.std.proofs.Common.{◌≡◌, List, [], ◌∷◌, refl, sym, ap, subst, ◌∙◌, ◌⊎◌, inl, inr, Bool, true, false, not}
use Rattle.std.specs.Prelude.{Contains, Decides, filter, find, option_map, if◌then◌else◌, Option, None, Some}
use Rattle.std.specs.BTreeSet.{insert_key}
use Rattle.std.specs.List.Sorted.{IsStrictlySortedBy}
use Rattle.std.specs.declared.cmp.Ordering.TheVariants.{Equal}
use Rattle.std.proofs.lemmas.Bool.{both_ways, not-true, not_from_false}
use Rattle.std.proofs.lemmas.Bool.Decides.{nat_tests}
use Rattle.std.proofs.Common.{arith}
use Rattle.std.proofs.lemmas.List.Kept.{IsStrictlySortedBy-filter}
use Rattle.vt_base.specs.Inside.OrderLaws.{IsTotalOrder-value_cmp}
use Rattle.vt_base.proofs.OrderLemmas.{exact-value_cmp, eq_by_cmp-Decides}
use Rattle.vt_base.specs.declared.numbers.ObjId.{ObjId}
use Rattle.vt_base.specs.declared.numbers.AttrId.{AttrId}
use Rattle.vt_base.specs.declared.value.Value.{Value}
use Rattle.vt_model.specs.Model.{Model}
use Rattle.vt_model.specs.Assigning.{value_order, is_value_of, with_default_value}
use Rattle.vt_model.specs.declared.model.AttributeValue.{AttributeValue}
use Rattle.vt_facts.proofs.MemberLemmas.{Contains-nil, Contains-head, Contains-find, find-some, Contains-filter, Contains-from_filter, Contains-insert_key_cases, Contains-insert_key_old}
use Rattle.vt_facts.proofs.OrderedLemmas.{IsStrictlySortedBy-insert_key}
use Rattle.vt_model.proofs.Valid.Defaults.{is_value_of-yes}
use Rattle.vt_graph.specs.Asked.{value_at}
use Rattle.vt_store.specs.Edits.{same_object, same_gone, same_value, same_link, net, edit_of}
use Rattle.vt_store.specs.Inside.Displaced.{no_change}
use Rattle.vt_store.specs.Inside.Assigned.{same_given, held_value, value_change, values_edit}
use Rattle.vt_store.proofs.EditLemmas.{known}
use Rattle.vt_store.proofs.NetLemmas.{rises-one, Contains-one, net-same, net-is}
use Rattle.vt_store.proofs.SameLemmas.{Decides-same_object, Decides-same_gone, Decides-same_value, Decides-same_link}
use Rattle.vt_facts.proofs.RisingLemmas.{tied_is, Contains-insert_key_there, rises-none}
use Rattle.vt_graph.proofs.ValueLemmas.{value_order_total}

-- ---- the same value

-- the test of two values that may be missing is exact
Decides-same_given : (v w : Option Value) → Decides (same_given v w) (v ≡ w)
Decides-same_given None None = ((λ e. refl), (λ e. refl))
Decides-same_given None (Some w) = ((λ e. cc), (λ e. cc))
Decides-same_given (Some v) None = ((λ e. cc), (λ e. cc))
Decides-same_given (Some v) (Some w) =
    let exact = eq_by_cmp-Decides IsTotalOrder-value_cmp exact-value_cmp v w in
    ((λ e. ap Some (exact.0 e)), (λ e. exact.1 cc))

-- ---- values of one object and attribute

-- equal in the order are values of one object and attribute
pub value_order-tied : (t u : AttributeValue) → value_order t u ≡ Equal → (t.object.0 ≡ u.object.0) × (t.attribute.0 ≡ u.attribute.0)
value_order-tied t u e = grind (arith, nat_tests)

pub tied-value_order : (t u : AttributeValue) → t.object.0 ≡ u.object.0 → t.attribute.0 ≡ u.attribute.0 → value_order t u ≡ Equal
tied-value_order t u object attribute = grind (arith, nat_tests)

-- a value of an object and an attribute has their numbers
pub is_value_of-numbers : (o : ObjId) (a : AttrId) (t : AttributeValue) → is_value_of o a t ≡ true → (t.object.0 ≡ o.0) × (t.attribute.0 ≡ a.0)
is_value_of-numbers o a t is = grind (arith, nat_tests)

-- the values rise, so an object has one for an attribute
pub one_value : (values : List AttributeValue) → IsStrictlySortedBy value_order values → (o : ObjId) (a : AttrId) (t u : AttributeValue)
    → Contains values t → Contains values u → is_value_of o a t ≡ true → is_value_of o a u ≡ true → t ≡ u
one_value values rise o a t u one other t_is u_is =
    let first = is_value_of-numbers o a t t_is in
    let second = is_value_of-numbers o a u u_is in
    tied_is value_order value_order_total values rise t u one other (tied-value_order t u (first.0 ∙ sym second.0) (first.1 ∙ sym second.1))

-- a value of an object and an attribute is what is held of them
held_is : (o : ObjId) (a : AttrId) (t : AttributeValue) → is_value_of o a t ≡ true → record { object = o; attribute = a; value = t.value } ≡ t
held_is o a t is =
    let numbers = is_value_of-numbers o a t is in
    λ i. record { object = record { 0 = sym numbers.0 i }; attribute = record { 0 = sym numbers.1 i }; value = t.value }

module _ (o : ObjId) (a : AttrId) where
  -- what is held rises, and is of the object and the attribute
  held-rises : (v : Option Value) → IsStrictlySortedBy value_order (held_value o a v)
  held-rises None = rises-none value_order
  held-rises (Some v) = rises-one value_order (record { object = o; attribute = a; value = v })

  held-is_value_of : (v : Option Value) (t : AttributeValue) → Contains (held_value o a v) t → is_value_of o a t ≡ true
  held-is_value_of None t there = absurd (Contains-nil t there)
  held-is_value_of (Some v) t there =
      subst (λ u. is_value_of o a u ≡ true) (Contains-one (record { object = o; attribute = a; value = v }) t there) (is_value_of-yes o a (record { object = o; attribute = a; value = v }) refl refl)

  -- one value is held of two that differ
  held-same : (v w : Option Value) (t : AttributeValue) → Contains (held_value o a v) t → Contains (held_value o a w) t → v ≡ w
  held-same None w t one other = absurd (Contains-nil t one)
  held-same (Some v) None t one other = absurd (Contains-nil t other)
  held-same (Some v) (Some w) t one other =
      let first = ap (λ u. u.value) (Contains-one (record { object = o; attribute = a; value = v }) t one) in
      let second = ap (λ u. u.value) (Contains-one (record { object = o; attribute = a; value = w }) t other) in
      ap Some (first ∙ sym second)

  module _ (g : Model) (rise : IsStrictlySortedBy value_order g.values) where
    -- the values of others
    abbrev others : List AttributeValue
    others = filter (λ t. not (is_value_of o a t)) g.values

    -- ---- what was held

    -- what is held stands, and what stands of the two is held
    held-stands : (t : AttributeValue) → Contains (held_value o a (value_at g o a)) t → Contains g.values t
    held-stands t there = by (find (is_value_of o a) g.values) refl there
      where
        by : (found : Option AttributeValue) → find (is_value_of o a) g.values ≡ found → Contains (held_value o a (option_map (λ u. u.value) found)) t → Contains g.values t
        by None none there = absurd (Contains-nil t there)
        by (Some u) some there =
            let found = Contains-find (is_value_of o a) g.values u some in
            let is : u ≡ t = sym (held_is o a u found.1) ∙ Contains-one (record { object = o; attribute = a; value = u.value }) t there in
            subst (Contains g.values) is found.0

    stands-held : (t : AttributeValue) → Contains g.values t → is_value_of o a t ≡ true → Contains (held_value o a (value_at g o a)) t
    stands-held t there is = by (find (is_value_of o a) g.values) refl
      where
        by : (found : Option AttributeValue) → find (is_value_of o a) g.values ≡ found → Contains (held_value o a (option_map (λ u. u.value) found)) t
        by None none = let some = find-some (is_value_of o a) g.values t there is in cc
        by (Some u) some =
            let found = Contains-find (is_value_of o a) g.values u some in
            let is_u : record { object = o; attribute = a; value = u.value } ≡ t = held_is o a u found.1 ∙ one_value g.values rise o a u t found.0 there found.1 is in
            subst (Contains (record { object = o; attribute = a; value = u.value } ∷ [])) is_u (Contains-head (record { object = o; attribute = a; value = u.value }) [])

    -- ---- what is held then

    -- the values afterwards
    abbrev after : Option Value → List AttributeValue
    after new = (with_default_value g o a new).values

    others-rise : IsStrictlySortedBy value_order others
    others-rise = IsStrictlySortedBy-filter value_order (λ t. not (is_value_of o a t)) g.values rise

    after-rise : (new : Option Value) → IsStrictlySortedBy value_order (after new)
    after-rise None = others-rise
    after-rise (Some v) = IsStrictlySortedBy-insert_key value_order value_order_total others (record { object = o; attribute = a; value = v }) others-rise

    -- what stands afterwards is another's, or is held
    after-cases : (new : Option Value) (t : AttributeValue) → Contains (after new) t → (Contains g.values t × (is_value_of o a t ≡ false)) ⊎ Contains (held_value o a new) t
    after-cases new t there = by new there
      where
        old : Contains others t → Contains g.values t × (is_value_of o a t ≡ false)
        old there = let was = Contains-from_filter (λ u. not (is_value_of o a u)) g.values t there in (was.0, not-true (is_value_of o a t) was.1)

        by : (v : Option Value) → Contains (after v) t → (Contains g.values t × (is_value_of o a t ≡ false)) ⊎ Contains (held_value o a v) t
        by None there = inl (old there)
        by (Some v) there = elim (Contains-insert_key_cases value_order (record { object = o; attribute = a; value = v }) others t there) [
          | inl older ↦ inl (old older)
          | inr is ↦ inr (subst (Contains (record { object = o; attribute = a; value = v } ∷ [])) is (Contains-head (record { object = o; attribute = a; value = v }) []))
        ]

    -- another's value stands still
    after-other : (new : Option Value) (t : AttributeValue) → Contains g.values t → is_value_of o a t ≡ false → Contains (after new) t
    after-other None t there other = Contains-filter (λ u. not (is_value_of o a u)) g.values t there (not_from_false (is_value_of o a t) other)
    after-other (Some v) t there other =
        Contains-insert_key_old value_order (record { object = o; attribute = a; value = v }) others t (Contains-filter (λ u. not (is_value_of o a u)) g.values t there (not_from_false (is_value_of o a t) other))

    -- what is held stands
    after-held : (new : Option Value) (t : AttributeValue) → Contains (held_value o a new) t → Contains (after new) t
    after-held None t there = absurd (Contains-nil t there)
    after-held (Some v) t there = subst (Contains (insert_key value_order others new)) (Contains-one new t there) (Contains-insert_key_there value_order new others apart)
      where
        new : AttributeValue
        new = record { object = o; attribute = a; value = v }

        apart : (u : AttributeValue) → Contains others u → value_order new u ≡ Equal → new ≡ u
        apart u other tied =
            let numbers = value_order-tied new u tied in
            let was = Contains-from_filter (λ w. not (is_value_of o a w)) g.values u other in
            absurd (both_ways (is_value_of o a u) (not-true (is_value_of o a u) was.1) (is_value_of-yes o a u (sym numbers.0) (sym numbers.1)))

    -- ---- what changed

    changes : (old new : Option Value) → value_at g o a ≡ old → net same_value g.values (after new) ≡ value_change o a old new
    changes old new was = by (same_given old new) refl
      where
        stood : (t : AttributeValue) → Contains (held_value o a old) t → Contains g.values t
        stood t there = held-stands t (subst (λ v. Contains (held_value o a v) t) (sym was) there)

        held : (t : AttributeValue) → Contains g.values t → is_value_of o a t ≡ true → Contains (held_value o a old) t
        held t there is = subst (λ v. Contains (held_value o a v) t) was (stands-held t there is)

        same_one : old ≡ new → net same_value g.values (after new) ≡ no_change
        same_one one = net-is same_value Decides-same_value value_order value_order_total g.values (after new) rise (after-rise new) [] [] (rises-none value_order) (rises-none value_order)
            (λ t none. absurd (Contains-nil t none)) (λ t none there. absurd (Contains-nil t none)) (λ t none. absurd (Contains-nil t none)) (λ t none there. absurd (Contains-nil t none))
            (λ t there. elim (after-cases new t there) [ inl other ↦ inl other.0 | inr new_one ↦ inl (stood t (subst (λ v. Contains (held_value o a v) t) (sym one) new_one)) ])
            (λ t there. elim (known (is_value_of o a t)) [
              | inl own ↦ inl (after-held new t (subst (λ v. Contains (held_value o a v) t) one (held t there own)))
              | inr other ↦ inl (after-other new t there other)
            ])

        others_too : (old ≡ new → ⊥) → net same_value g.values (after new) ≡ record { added = held_value o a new; removed = held_value o a old }
        others_too differ = net-is same_value Decides-same_value value_order value_order_total g.values (after new) rise (after-rise new)
            (held_value o a new) (held_value o a old) (held-rises new) (held-rises old)
            (after-held new)
            (λ t came there. differ (held-same old new t (held t there (held-is_value_of new t came)) came))
            stood
            (λ t went there. elim (after-cases new t there) [
              | inl other ↦ both_ways (is_value_of o a t) other.1 (held-is_value_of old t went)
              | inr came ↦ differ (held-same old new t went came)
            ])
            (λ t there. elim (after-cases new t there) [ inl other ↦ inl other.0 | inr came ↦ inr came ])
            (λ t there. elim (known (is_value_of o a t)) [ inl own ↦ inr (held t there own) | inr other ↦ inl (after-other new t there other) ])

        by : (b : Bool) → same_given old new ≡ b → net same_value g.values (after new) ≡ (if b then no_change else record { added = held_value o a new; removed = held_value o a old })
        by true e = same_one ((Decides-same_given old new).0 e)
        by false e = others_too (λ one. both_ways (same_given old new) e ((Decides-same_given old new).1 one))

    -- the new value came and the old one went, unless they are the same
    pub edit_of-assigned : (new : Option Value) → edit_of g (with_default_value g o a new) ≡ values_edit g.next (value_change o a (value_at g o a) new)
    edit_of-assigned None = λ i. record {
      next = g.next;
      live = net-same same_object Decides-same_object g.live i;
      gone = net-same same_gone Decides-same_gone g.gone i;
      values = changes (value_at g o a) None refl i;
      links = net-same same_link Decides-same_link g.links i;
    }
    edit_of-assigned (Some v) = λ i. record {
      next = g.next;
      live = net-same same_object Decides-same_object g.live i;
      gone = net-same same_gone Decides-same_gone g.gone i;
      values = changes (value_at g o a) (Some v) refl i;
      links = net-same same_link Decides-same_link g.links i;
    }
