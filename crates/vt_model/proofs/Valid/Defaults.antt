-- The values that a new object gets: each once, in order, and with its attribute's kind.
use Rattle.std.proofs.Common.{◌≡◌, ℕ, zero, suc, ◌+◌, List, [], ◌∷◌, refl, sym, ap, subst, ◌∙◌, arith, Bool, true, false}
use Rattle.std.specs.Prelude.{◌<◌, ◌≤◌, ◌≢◌, ◌==◌, All, count_by, slice_get, Option, Some, None, IsSome, if◌then◌else◌}
use Rattle.std.specs.List.Sorted.{IsStrictlySortedBy}
use Rattle.std.specs.declared.cmp.Ordering.TheVariants.{Less}
use Rattle.std.proofs.lemmas.Bool.{and_left, and_right, ne_eqb}
use Rattle.std.proofs.lemmas.Bool.Decides.{nat_tests}
use Rattle.std.proofs.lemmas.List.Elements.{All-nil, All-cons, All-weaker, recursion_from_All}
use Rattle.vt_base.specs.declared.numbers.ObjId.{ObjId}
use Rattle.vt_base.specs.declared.numbers.ClassId.{ClassId}
use Rattle.vt_base.specs.declared.numbers.AttrId.{AttrId}
use Rattle.vt_base.specs.declared.value.Value.{Value}
use Rattle.vt_model.specs.Metamodel.{Metamodel, isa}
use Rattle.vt_model.specs.Creating.{default_value, with_default, defaults_from}
use Rattle.vt_model.specs.Assigning.{value_order, is_value_of}
use Rattle.vt_model.specs.declared.metamodel.AttrInfo.{AttrInfo}
use Rattle.vt_model.specs.declared.model.AttributeValue.{AttributeValue}
use Rattle.vt_facts.proofs.CountLemmas.{count_by-yes, count_by-no, count_by-none}

-- ---- orders and tests of values

-- a value of an earlier object comes first
pub value_order-object : (t u : AttributeValue) → t.object.0 < u.object.0 → value_order t u ≡ Less
value_order-object t u below = grind (arith, nat_tests)

-- of one object's values that of an earlier attribute comes first
value_order-attribute : (t u : AttributeValue) → t.object.0 ≡ u.object.0 → t.attribute.0 < u.attribute.0 → value_order t u ≡ Less
value_order-attribute t u same below = grind (arith, nat_tests)

-- a value with the two numbers is that of the object and the attribute
pub is_value_of-yes : (o : ObjId) (a : AttrId) (t : AttributeValue) → t.object.0 ≡ o.0 → t.attribute.0 ≡ a.0 → is_value_of o a t ≡ true
is_value_of-yes o a t object attribute = grind (arith, nat_tests)

-- a value of another object is not
pub is_value_of-other_object : (o : ObjId) (a : AttrId) (t : AttributeValue) → t.object.0 ≢ o.0 → is_value_of o a t ≡ false
is_value_of-other_object o a t other = and_left (t.object.0 == o.0) (t.attribute.0 == a.0) (ne_eqb t.object.0 o.0 other)

-- nor is a value of another attribute
pub is_value_of-other_attribute : (o : ObjId) (a : AttrId) (t : AttributeValue) → t.attribute.0 ≢ a.0 → is_value_of o a t ≡ false
is_value_of-other_attribute o a t other = and_right (t.object.0 == o.0) (t.attribute.0 == a.0) (ne_eqb t.attribute.0 a.0 other)

-- ---- the values that a new object gets

-- what holds of the rest, and of it with a default before it
module _ (P : List AttributeValue → Type 0) (o : ObjId) (n : ℕ) (rest : List AttributeValue) where
  with_default_or_rest : (b : Bool) (v : Option Value) → P rest
      → ((w : Value) → b ≡ true → v ≡ Some w → P (record { object = o; attribute = record { 0 = n }; value = w } ∷ rest))
      → P (if b then with_default o n v rest else rest)
  with_default_or_rest true None keep more = keep
  with_default_or_rest true (Some w) keep more = more w refl refl
  with_default_or_rest false v keep more = keep

module _ (meta : Metamodel) (c : ClassId) (o : ObjId) where
  -- a fact on each default
  pub All-defaults_from : (Q : AttributeValue → Type 0) (n : ℕ) (infos : List AttrInfo)
      → ((k m : ℕ) (info : AttrInfo) (w : Value) → m ≡ n + k → slice_get infos k ≡ Some info → isa meta c info.class ≡ true → default_value info.kind ≡ Some w
      → Q (record { object = o; attribute = record { 0 = m }; value = w }))
      → All Q (defaults_from meta c o n infos)
  All-defaults_from Q n [] each = All-nil Q
  All-defaults_from Q n (info ∷ infos) each =
      let rest = All-defaults_from Q (n + 1) infos (λ k m i w at there class default. each (suc k) m i w (omega arith) there class default) in
      with_default_or_rest (All Q) o n (defaults_from meta c o (n + 1) infos) (isa meta c info.class) (default_value info.kind) rest
      (λ w class default. All-cons Q _ (defaults_from meta c o (n + 1) infos) (each 0 n info w (omega arith) refl class default) rest)

  -- all are of the new object
  pub defaults-object : (n : ℕ) (infos : List AttrInfo) → All (λ t. t.object ≡ o) (defaults_from meta c o n infos)
  defaults-object n infos = All-defaults_from (λ t. t.object ≡ o) n infos (λ k m i w at there class default. refl)

  -- and of the attributes from the n-th on
  defaults-attribute : (n : ℕ) (infos : List AttrInfo) → All (λ t. (t.object ≡ o) × (n ≤ t.attribute.0)) (defaults_from meta c o n infos)
  defaults-attribute n infos = All-defaults_from (λ t. (t.object ≡ o) × (n ≤ t.attribute.0)) n infos (λ k m i w at there class default. (refl, omega arith))

  -- they stand in the order of their attributes
  pub defaults-rise : (n : ℕ) (infos : List AttrInfo) → IsStrictlySortedBy value_order (defaults_from meta c o n infos)
  unfolding IsStrictlySortedBy
  defaults-rise n [] = tt
  defaults-rise n (info ∷ infos) =
      let rest = defaults-rise (n + 1) infos in
      with_default_or_rest (IsStrictlySortedBy value_order) o n (defaults_from meta c o (n + 1) infos) (isa meta c info.class) (default_value info.kind) rest
      (λ w class default. (
        recursion_from_All (λ u. value_order (record { object = o; attribute = record { 0 = n }; value = w }) u ≡ Less) (defaults_from meta c o (n + 1) infos)
            (All-weaker (λ t. (t.object ≡ o) × (n + 1 ≤ t.attribute.0)) (λ u. value_order (record { object = o; attribute = record { 0 = n }; value = w }) u ≡ Less)
            (λ u h. value_order-attribute (record { object = o; attribute = record { 0 = n }; value = w }) u (ap (λ x. x.0) (sym h.0)) (omega (arith, h.1))) (defaults_from meta c o (n + 1) infos) (defaults-attribute (n + 1) infos)),
        rest,
      ))

  -- the count of the first attribute's default, and of none in the rest
  module _ (n m : ℕ) (infos : List AttrInfo) (at : m ≡ n) where
    -- the defaults of the attributes after the n-th
    abbrev rest : List AttributeValue
    rest = defaults_from meta c o (n + 1) infos

    -- the n-th attribute has one default, where the class has the attribute and its kind a default
    count_by-first : (b : Bool) (v : Option Value) → b ≡ true → IsSome v → count_by (is_value_of o (record { 0 = m })) (if b then with_default o n v rest else rest) ≡ 1
    count_by-first true None e some = cc
    count_by-first true (Some w) e some =
        count_by-yes (is_value_of o (record { 0 = m })) (record { object = o; attribute = record { 0 = n }; value = w }) rest
        (is_value_of-yes o (record { 0 = m }) (record { object = o; attribute = record { 0 = n }; value = w }) refl (sym at))
        ∙ ap (λ z. 1 + z) (count_by-none (is_value_of o (record { 0 = m })) rest
        (All-weaker (λ t. (t.object ≡ o) × (n + 1 ≤ t.attribute.0)) (λ t. is_value_of o (record { 0 = m }) t ≡ false) (λ t h. is_value_of-other_attribute o (record { 0 = m }) t (omega (arith, h.1))) rest (defaults-attribute (n + 1) infos)))
    count_by-first false v e some = cc

  -- one default for an attribute of the class that has one
  pub count_by-defaults : (n k m : ℕ) (infos : List AttrInfo) (info : AttrInfo)
      → slice_get infos k ≡ Some info → isa meta c info.class ≡ true → IsSome (default_value info.kind) → m ≡ n + k
      → count_by (is_value_of o (record { 0 = m })) (defaults_from meta c o n infos) ≡ 1
  count_by-defaults n k m [] info there class default at = cc
  count_by-defaults n zero m (i ∷ infos) info there class default at =
      let is : info ≡ i = cc in
      count_by-first n m infos (omega arith) (isa meta c i.class) (default_value i.kind) (subst (λ x. isa meta c x.class ≡ true) is class) (subst (λ x. IsSome (default_value x.kind)) is default)
  count_by-defaults n (suc k) m (i ∷ infos) info there class default at =
      let rest = count_by-defaults (n + 1) k m infos info there class default (omega arith) in
      with_default_or_rest (λ l. count_by (is_value_of o (record { 0 = m })) l ≡ 1) o n (defaults_from meta c o (n + 1) infos) (isa meta c i.class) (default_value i.kind) rest
      (λ w is_class is_default. count_by-no (is_value_of o (record { 0 = m })) (record { object = o; attribute = record { 0 = n }; value = w }) (defaults_from meta c o (n + 1) infos)
      (is_value_of-other_attribute o (record { 0 = m }) (record { object = o; attribute = record { 0 = n }; value = w }) (omega arith)) ∙ rest)
