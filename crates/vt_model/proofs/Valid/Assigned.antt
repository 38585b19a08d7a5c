-- The values of a valid model, after an attribute of an object got a value, and after it lost it.
use Rattle.std.proofs.Common.{◌≡◌, ◌+◌, List, refl, sym, ap, subst, ◌∙◌, cond, arith, Bool, true, false}
use Rattle.std.specs.Prelude.{◌==◌, ◌≢◌, not, All, slice_get, count_by, filter, Some, None, IsSome}
use Rattle.std.specs.List.Sorted.{IsStrictlySortedBy}
use Rattle.std.specs.Cmp.{IsTotalOrder}
use Rattle.std.specs.declared.cmp.Ordering.TheVariants.{Equal}
use Rattle.std.proofs.lemmas.Bool.{and_parts, eqb-true, both_ways, false≢true, not-true, not_from_false, false_from_ne_true}
use Rattle.std.proofs.lemmas.Bool.Decides.{nat_tests}
use Rattle.std.proofs.lemmas.Cmp.{then_total, on_total, nat_cmp_total}
use Rattle.std.proofs.lemmas.List.Elements.{All-weaker, All-filter, filter_passes}
use Rattle.std.proofs.lemmas.List.Kept.{IsStrictlySortedBy-filter}
use Rattle.std.proofs.lemmas.Map.Views.{All-insert_key}
use Rattle.vt_base.specs.declared.numbers.ObjId.{ObjId}
use Rattle.vt_base.specs.declared.numbers.AttrId.{AttrId}
use Rattle.vt_base.specs.declared.value.Value.{Value}
use Rattle.vt_model.specs.Metamodel.{Metamodel}
use Rattle.vt_model.specs.Model.{Model}
use Rattle.vt_model.specs.Creating.{default_value}
use Rattle.vt_model.specs.Assigning.{value_order, is_value_of, without_value, with_value}
use Rattle.vt_model.specs.Fits.{FitsAttribute, HasItsValues}
use Rattle.vt_model.specs.declared.metamodel.AttrInfo.{AttrInfo}
use Rattle.vt_model.specs.declared.model.AttributeValue.{AttributeValue}
use Rattle.vt_facts.proofs.OrderedLemmas.{IsStrictlySortedBy-insert_key}
use Rattle.vt_model.proofs.Valid.Sides.{ObjectSide}
use Rattle.vt_facts.proofs.CountLemmas.{count_by-none, count_by-filter, count_by-insert_key}
use Rattle.vt_model.proofs.Valid.Defaults.{is_value_of-yes}

-- ---- orders and tests of values

-- values are ordered by two numbers
value_order_total : IsTotalOrder value_order
value_order_total = then_total (on_total (λ t. t.object.0) nat_cmp_total) (on_total (λ t. t.attribute.0) nat_cmp_total)

-- equal in the order are values of one object and attribute
value_order-Equal : (t u : AttributeValue) → value_order t u ≡ Equal → (t.object.0 ≡ u.object.0) × (t.attribute.0 ≡ u.attribute.0)
value_order-Equal t u e = grind (arith, nat_tests)

-- a value of an object and an attribute has their numbers
is_value_of-parts : (o : ObjId) (a : AttrId) (t : AttributeValue) → is_value_of o a t ≡ true → (t.object.0 ≡ o.0) × (t.attribute.0 ≡ a.0)
is_value_of-parts o a t is =
    let both = and_parts (t.object.0 == o.0) (t.attribute.0 == a.0) is in
    (eqb-true t.object.0 o.0 both.0, eqb-true t.attribute.0 a.0 both.1)

module _ (meta : Metamodel) (g : Model) (side : ObjectSide meta g) (o : ObjId) (a : AttrId) where
  -- ---- after the attribute lost its value

  -- the values of other objects and attributes
  abbrev kept : List AttributeValue
  kept = filter (λ t. not (is_value_of o a t)) g.values

  -- none of them is of this object and attribute
  count_by-kept_here : (p : ObjId) (b : AttrId) → p.0 ≡ o.0 → b.0 ≡ a.0 → count_by (is_value_of p b) kept ≡ 0
  count_by-kept_here p b object attribute =
      count_by-none (is_value_of p b) kept
      (All-weaker (λ t. not (is_value_of o a t) ≡ true) (λ t. is_value_of p b t ≡ false) (λ t stays. false_from_ne_true (is_value_of p b t) (never t stays))
      kept (filter_passes (λ t. not (is_value_of o a t)) g.values))
    where
      never : (t : AttributeValue) → not (is_value_of o a t) ≡ true → is_value_of p b t ≡ true → ⊥
      never t stays is =
          let parts = is_value_of-parts p b t is in
          both_ways (is_value_of o a t) (not-true (is_value_of o a t) stays) (is_value_of-yes o a t (parts.0 ∙ object) (parts.1 ∙ attribute))

  -- all values of another object or attribute are among them
  count_by-kept_elsewhere : (p : ObjId) (b : AttrId) → (p.0 ≡ o.0 → b.0 ≢ a.0) → count_by (is_value_of p b) kept ≡ count_by (is_value_of p b) g.values
  count_by-kept_elsewhere p b elsewhere =
      count_by-filter (is_value_of p b) (λ t. not (is_value_of o a t))
      (λ t is. not_from_false (is_value_of o a t) (false_from_ne_true (is_value_of o a t) (never t is))) g.values
    where
      never : (t : AttributeValue) → is_value_of p b t ≡ true → is_value_of o a t ≡ true → ⊥
      never t is old =
          let theirs = is_value_of-parts p b t is in
          let own = is_value_of-parts o a t old in
          elsewhere (sym theirs.0 ∙ own.0) (sym theirs.1 ∙ own.1)

  -- the others rise
  pub values_rise-without_value : IsStrictlySortedBy value_order (without_value g o a).values
  values_rise-without_value = IsStrictlySortedBy-filter value_order (λ t. not (is_value_of o a t)) g.values side.values_rise

  -- the others fit
  pub values_fit-without_value : All (FitsAttribute meta g.live) (without_value g o a).values
  values_fit-without_value = All-filter (λ t. not (is_value_of o a t)) (FitsAttribute meta g.live) g.values side.values_fit

  -- an attribute that has no default needs no value
  pub values_there-without_value : (info : AttrInfo) → slice_get meta.attributes a.0 ≡ Some info → default_value info.kind ≡ None
      → All (HasItsValues meta (without_value g o a).values) g.live
  values_there-without_value info declared no_default =
      All-weaker (HasItsValues meta g.values) (HasItsValues meta kept)
      (λ p has b i there class default. count_by-kept_elsewhere p.number b (λ object. other b i there default) ∙ has b i there class default)
      g.live side.values_there
    where
      other : (b : AttrId) (i : AttrInfo) → slice_get meta.attributes b.0 ≡ Some i → IsSome (default_value i.kind) → b.0 ≢ a.0
      other b i there default same =
          let here : slice_get meta.attributes a.0 ≡ Some i = subst (λ n. slice_get meta.attributes n ≡ Some i) same there in
          let is : i ≡ info = cc in
          false≢true (subst IsSome (ap (λ (x : AttrInfo). default_value x.kind) is ∙ no_default) default)

  -- ---- after it got one

  module _ (v : Value) where
    -- the new value
    abbrev new : AttributeValue
    new = record { object = o; attribute = a; value = v }

    -- the new value goes to its place in the order
    pub values_rise-with_value : IsStrictlySortedBy value_order (with_value g o a v).values
    values_rise-with_value = IsStrictlySortedBy-insert_key value_order value_order_total kept new values_rise-without_value

    -- it fits, and the others do
    pub values_fit-with_value : FitsAttribute meta g.live new → All (FitsAttribute meta g.live) (with_value g o a v).values
    values_fit-with_value fits = All-insert_key value_order new (FitsAttribute meta g.live) kept values_fit-without_value fits

    -- the one value of the attribute is the new one, and the others stay
    pub values_there-with_value : All (HasItsValues meta (with_value g o a v).values) g.live
    values_there-with_value =
        All-weaker (HasItsValues meta g.values) (HasItsValues meta (with_value g o a v).values)
        (λ p has b i there class default. count_by-insert_key (is_value_of p.number b) value_order kept new apart ∙ once p.number b (is_value_of p.number b new) refl (has b i there class default))
        g.live side.values_there
      where
        -- none that is kept has the place of the new one
        apart : All (λ t. value_order new t ≡ Equal → ⊥) kept
        apart = All-weaker (λ t. not (is_value_of o a t) ≡ true) (λ t. value_order new t ≡ Equal → ⊥) never kept (filter_passes (λ t. not (is_value_of o a t)) g.values)
          where
            never : (t : AttributeValue) → not (is_value_of o a t) ≡ true → value_order new t ≡ Equal → ⊥
            never t stays e =
                let same = value_order-Equal new t e in
                both_ways (is_value_of o a t) (not-true (is_value_of o a t) stays) (is_value_of-yes o a t (sym same.0) (sym same.1))

        once : (p : ObjId) (b : AttrId) (is_new : Bool) → is_value_of p b new ≡ is_new → count_by (is_value_of p b) g.values ≡ 1
            → cond is_new 1 0 + count_by (is_value_of p b) kept ≡ 1
        once p b true e before =
            let here = is_value_of-parts p b new e in
            let none : count_by (is_value_of p b) kept ≡ 0 = count_by-kept_here p b (sym here.0) (sym here.1) in
            omega arith
        once p b false e before =
            let same : count_by (is_value_of p b) kept ≡ count_by (is_value_of p b) g.values =
            count_by-kept_elsewhere p b (λ object attribute. both_ways (is_value_of p b new) e (is_value_of-yes p b new (sym object) (sym attribute))) in
            omega arith
