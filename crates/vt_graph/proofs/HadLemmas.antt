-- The attributes that a class has rise, and so do the values of an object of it.
use Rattle.std.proofs.Common.{◌≡◌, ℕ, zero, suc, ◌+◌, eq-eqb, ◌≤◌, List, [], ◌∷◌, map, refl, sym, ap, subst, ◌∙◌, ◌⊎◌, inl, inr, cond, arith, Bool, true, false}
use Rattle.std.specs.Prelude.{Contains, find, slice_get, ◌==◌, Some, IsSome, IfSome, All}
use Rattle.std.specs.List.{AllByRecursion}
use Rattle.std.specs.List.Sorted.{IsStrictlySortedBy}
use Rattle.std.specs.Ordering.{nat_cmp}
use Rattle.std.specs.Cmp.{nat_cmp_is}
use Rattle.std.specs.declared.cmp.Ordering.{Ordering}
use Rattle.std.specs.declared.cmp.Ordering.TheVariants.{Less}
use Rattle.std.proofs.lemmas.List.Elements.{All-contains}
use Rattle.vt_base.specs.declared.numbers.ClassId.{ClassId}
use Rattle.vt_base.specs.declared.numbers.AttrId.{AttrId}
use Rattle.vt_model.specs.Metamodel.{Metamodel, isa}
use Rattle.vt_model.specs.declared.metamodel.AttrInfo.{AttrInfo}
use Rattle.vt_facts.proofs.MemberLemmas.{Contains-nil, Contains-head, Contains-behind, Contains-cons_cases, Contains-map, Contains-from_map}
use Rattle.vt_slots.specs.Values.{AttributesRise, HasPlace}
use Rattle.vt_slots.specs.declared.values.Held.{Held}
use Rattle.vt_slots.specs.declared.slot.Body.{Body}
use Rattle.vt_slots.specs.declared.slot.Slot.{Slot}
use Rattle.vt_graph.specs.Inside.Planned.{attributes_from, attributes_had}
use Rattle.vt_graph.specs.Inside.Indexed.{IsBodyOf, IsSlot}
use Rattle.vt_graph.specs.declared.plan.AttributePlan.{AttributePlan}
use Rattle.vt_facts.proofs.RisingLemmas.{rises-none, rises-cons}

-- ---- a list rises as its keys do

module _ {X Y : Type 0} (R : Y → Y → Ordering) (f : X → Y) where
  below-map : (x : X) (xs : List X) → AllByRecursion (λ y. R (f x) (f y) ≡ Less) xs → AllByRecursion (λ k. R (f x) k ≡ Less) (map f xs)
  below-map x [] below = tt
  below-map x (y ∷ ys) below = (below.0, below-map x ys below.1)

  below-from_map : (x : X) (xs : List X) → AllByRecursion (λ k. R (f x) k ≡ Less) (map f xs) → AllByRecursion (λ y. R (f x) (f y) ≡ Less) xs
  below-from_map x [] below = tt
  below-from_map x (y ∷ ys) below = (below.0, below-from_map x ys below.1)

  pub rises-map : (xs : List X) → IsStrictlySortedBy (λ x y. R (f x) (f y)) xs → IsStrictlySortedBy R (map f xs)
  unfolding IsStrictlySortedBy
  rises-map [] rise = tt
  rises-map (x ∷ xs) rise = (below-map x xs rise.0, rises-map xs rise.1)

  pub rises-from_map : (xs : List X) → IsStrictlySortedBy R (map f xs) → IsStrictlySortedBy (λ x y. R (f x) (f y)) xs
  unfolding IsStrictlySortedBy
  rises-from_map [] rise = tt
  rises-from_map (x ∷ xs) rise = (below-from_map x xs rise.0, rises-from_map xs rise.1)

-- ---- the attributes of a class

abbrev pub attr_order : AttrId → AttrId → Ordering
attr_order a b = nat_cmp a.0 b.0

abbrev plan_order : AttributePlan → AttributePlan → Ordering
plan_order p q = attr_order p.attribute q.attribute

module _ (meta : Metamodel) (c : ClassId) where
  -- none is before the place from which they are looked for
  pub had_from : (a : ℕ) (infos : List AttrInfo) (p : AttributePlan) → Contains (attributes_from meta c a infos) p → a ≤ p.attribute.0
  had_from a [] p there = absurd (Contains-nil p there)
  had_from a (info ∷ infos) p there = by (had_from (a + 1) infos p) (isa meta c info.class) there
    where
      by : (Contains (attributes_from meta c (a + 1) infos) p → a + 1 ≤ p.attribute.0) → (b : Bool)
          → Contains (cond b (record { attribute = record { 0 = a }; kind = info.kind } ∷ attributes_from meta c (a + 1) infos) (attributes_from meta c (a + 1) infos)) p
          → a ≤ p.attribute.0
      by rest true there = elim (Contains-cons_cases (record { attribute = record { 0 = a }; kind = info.kind }) p (attributes_from meta c (a + 1) infos) there) [
        | inl is ↦ let e : a ≡ p.attribute.0 = ap (λ (x : AttributePlan). x.attribute.0) is in omega arith
        | inr later ↦ let more = rest later in omega arith
      ]
      by rest false there = let more = rest there in omega arith

  plans_rise : (a : ℕ) (infos : List AttrInfo) → IsStrictlySortedBy plan_order (attributes_from meta c a infos)
  plans_rise a [] = rises-none plan_order
  plans_rise a (info ∷ infos) = by (plans_rise (a + 1) infos) (isa meta c info.class)
    where
      by : IsStrictlySortedBy plan_order (attributes_from meta c (a + 1) infos) → (b : Bool)
          → IsStrictlySortedBy plan_order (cond b (record { attribute = record { 0 = a }; kind = info.kind } ∷ attributes_from meta c (a + 1) infos) (attributes_from meta c (a + 1) infos))
      by rest true = rises-cons plan_order (record { attribute = record { 0 = a }; kind = info.kind }) (attributes_from meta c (a + 1) infos)
          (λ p there. sym (nat_cmp_is a p.attribute.0 Less (let more = had_from (a + 1) infos p there in omega arith))) rest
      by rest false = rest

  -- they rise
  pub had_rise : IsStrictlySortedBy attr_order (attributes_had meta c)
  had_rise = rises-map attr_order (λ (p : AttributePlan). p.attribute) (attributes_from meta c 0 meta.attributes) (plans_rise 0 meta.attributes)

  -- and so do the places of a body
  pub values_rise_in : (held : List Held) → map (λ h. h.attribute) held ≡ attributes_had meta c → AttributesRise held
  values_rise_in held places = rises-from_map attr_order (λ (h : Held). h.attribute) held (subst (IsStrictlySortedBy attr_order) (sym places) had_rise)

  -- an attribute that the class has is among them
  had_at : (k : ℕ) (infos : List AttrInfo) (j : ℕ) (info : AttrInfo) → slice_get infos j ≡ Some info → isa meta c info.class ≡ true
      → (p : AttributePlan) × Contains (attributes_from meta c k infos) p × (p.attribute.0 ≡ k + j)
  had_at k [] j info at has = cc
  had_at k (first ∷ infos) zero info at has =
      let is : first ≡ info = cc in
      let e : isa meta c first.class ≡ true = ap (λ (i : AttrInfo). isa meta c i.class) is ∙ has in
      rw e (record { attribute = record { 0 = k }; kind = first.kind }, Contains-head (record { attribute = record { 0 = k }; kind = first.kind }) (attributes_from meta c (k + 1) infos), omega arith)
  had_at k (first ∷ infos) (suc j) info at has = by (had_at (k + 1) infos j info at has) (isa meta c first.class)
    where
      by : (p : AttributePlan) × Contains (attributes_from meta c (k + 1) infos) p × (p.attribute.0 ≡ k + 1 + j) → (b : Bool)
          → (p : AttributePlan) × Contains (cond b (record { attribute = record { 0 = k }; kind = first.kind } ∷ attributes_from meta c (k + 1) infos) (attributes_from meta c (k + 1) infos)) p × (p.attribute.0 ≡ k + suc j)
      by rest true = let e = rest.2 in (rest.0, Contains-behind (record { attribute = record { 0 = k }; kind = first.kind }) rest.0 (attributes_from meta c (k + 1) infos) rest.1, omega arith)
      by rest false = let e = rest.2 in (rest.0, rest.1, omega arith)

  pub had_there : (a : AttrId) (info : AttrInfo) → slice_get meta.attributes a.0 ≡ Some info → isa meta c info.class ≡ true → Contains (attributes_had meta c) a
  had_there a info at has =
      let found = had_at 0 meta.attributes a.0 info at has in
      let number : found.0.attribute.0 ≡ a.0 = omega (arith, found.2) in
      subst (Contains (attributes_had meta c)) (ap (λ (n : ℕ). record { 0 = n }) number) (Contains-map (λ (p : AttributePlan). p.attribute) (attributes_from meta c 0 meta.attributes) found.0 found.1)

  -- and the class has what stands among them
  had_back_at : (k : ℕ) (infos : List AttrInfo) (j : ℕ) (info : AttrInfo) (p : AttributePlan) → Contains (attributes_from meta c k infos) p → p.attribute.0 ≡ k + j
      → slice_get infos j ≡ Some info → isa meta c info.class ≡ true
  had_back_at k [] j info p there is at = cc
  had_back_at k (first ∷ infos) zero info p there is at = by (isa meta c first.class) refl there
    where
      by : (b : Bool) → isa meta c first.class ≡ b
          → Contains (cond b (record { attribute = record { 0 = k }; kind = first.kind } ∷ attributes_from meta c (k + 1) infos) (attributes_from meta c (k + 1) infos)) p → isa meta c info.class ≡ true
      by true e there = let same : first ≡ info = cc in sym (ap (λ (i : AttrInfo). isa meta c i.class) same) ∙ e
      by false e there = let later = had_from (k + 1) infos p there in let no : ⊥ = omega (arith, later, is) in absurd no
  had_back_at k (first ∷ infos) (suc j) info p there is at = by (λ later. had_back_at (k + 1) infos j info p later (omega (arith, is)) at) (isa meta c first.class) there
    where
      by : (Contains (attributes_from meta c (k + 1) infos) p → isa meta c info.class ≡ true) → (b : Bool)
          → Contains (cond b (record { attribute = record { 0 = k }; kind = first.kind } ∷ attributes_from meta c (k + 1) infos) (attributes_from meta c (k + 1) infos)) p → isa meta c info.class ≡ true
      by rest true there = elim (Contains-cons_cases (record { attribute = record { 0 = k }; kind = first.kind }) p (attributes_from meta c (k + 1) infos) there) [
        | inl here ↦ let e : k ≡ p.attribute.0 = ap (λ (x : AttributePlan). x.attribute.0) here in let no : ⊥ = omega (arith, e, is) in absurd no
        | inr later ↦ rest later
      ]
      by rest false there = rest there

  pub had_back : (a : AttrId) (info : AttrInfo) → slice_get meta.attributes a.0 ≡ Some info → Contains (attributes_had meta c) a → isa meta c info.class ≡ true
  had_back a info at there =
      let found = Contains-from_map (λ (p : AttributePlan). p.attribute) (attributes_from meta c 0 meta.attributes) a there in
      let number : found.0.attribute.0 ≡ a.0 = ap (λ (b : AttrId). b.0) found.2 in
      had_back_at 0 meta.attributes a.0 info found.0 found.1 (omega (arith, number)) at

-- an attribute that stands among the places is found
pub place_there : (held : List Held) (a : AttrId) → Contains (map (λ h. h.attribute) held) a → HasPlace held a
place_there [] a there = absurd (Contains-nil a there)
place_there (h ∷ held) a there = by (place_there held a) (h.attribute.0 == a.0) refl (Contains-cons_cases h.attribute a (map (λ k. k.attribute) held) there)
  where
    by : (Contains (map (λ k. k.attribute) held) a → HasPlace held a) → (b : Bool) → (h.attribute.0 == a.0) ≡ b → (h.attribute ≡ a) ⊎ Contains (map (λ k. k.attribute) held) a
        → IsSome (cond b (Some h) (find (λ k. k.attribute.0 == a.0) held))
    by rest true e there = refl
    by rest false e (inl is) = let no = eq-eqb h.attribute.0 a.0 (ap (λ (b : AttrId). b.0) is) in cc
    by rest false e (inr later) = rest later

-- ---- the bodies of slots

-- a body is one of its slot's class
pub body_fits : (meta : Metamodel) (next : ℕ) (slots : List Slot) → All (IsSlot meta next) slots
    → (s : Slot) (body : Body) → Contains slots s → s.body ≡ Some body → IsBodyOf meta s.class body
body_fits meta next slots each s body there is = subst (λ r. IfSome r (IsBodyOf meta s.class)) is (All-contains (IsSlot meta next) slots s each there).body

-- the values of each body rise
abbrev pub ValuesRise : List Slot → Type 0
ValuesRise slots = (s : Slot) (body : Body) → Contains slots s → s.body ≡ Some body → AttributesRise body.values

pub values_rise_each : (meta : Metamodel) (next : ℕ) (slots : List Slot) → All (IsSlot meta next) slots → ValuesRise slots
values_rise_each meta next slots each s body there is = values_rise_in meta s.class body.values (body_fits meta next slots each s body there is).places
