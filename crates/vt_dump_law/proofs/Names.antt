-- What names find in a valid model, and in the classes of a sound metamodel.
use Rattle.std.proofs.Common.{◌≡◌, ℕ, ◌+◌, List, [], ◌++◌, length, map, refl, ap, ◌∙◌, arith, Bool, true, false}
use Rattle.std.specs.Prelude.{◌<◌, ◌≤◌, ◌==◌, filter, position, Contains, count_by, slice_get, IsSomeAnd, Option, Some, None, option_map, unwrap_or}
use Rattle.std.specs.Cmp.{IsTotalOrder}
use Rattle.std.specs.declared.cmp.Ordering.TheVariants.{Equal}
use Rattle.std.proofs.lemmas.Bool.{and_from, eq-eqb, eqb-true}
use Rattle.std.proofs.lemmas.Bool.Decides.{nat_tests}
use Rattle.std.proofs.lemmas.Cmp.{on_total, nat_cmp_total}
use Rattle.std.proofs.lemmas.Option.{slice_get_within}
use Rattle.std.proofs.lemmas.List.Elements.{All-contains}
use Rattle.vt_base.specs.declared.numbers.ClassId.{ClassId}
use Rattle.vt_base.specs.declared.numbers.AttrId.{AttrId}
use Rattle.vt_base.specs.declared.numbers.RefId.{RefId}
use Rattle.vt_model.specs.Metamodel.{Metamodel, isa, feature_names, is_attribute_of, is_reference_of, or_reference, feature}
use Rattle.vt_facts.specs.Names.{is_name}
use Rattle.vt_model.specs.Model.{Model, object_named}
use Rattle.vt_model.specs.Sound.{IsSound}
use Rattle.vt_model.specs.Valid.{IsValid, IsConcrete, object_order}
use Rattle.vt_model.specs.declared.metamodel.ClassInfo.{ClassInfo}
use Rattle.vt_model.specs.declared.metamodel.AttrInfo.{AttrInfo}
use Rattle.vt_model.specs.declared.metamodel.RefInfo.{RefInfo}
use Rattle.vt_model.specs.declared.metamodel.Feature.TheVariants.{Attr, Ref}
use Rattle.vt_model.specs.declared.model.Object.{Object}
use Rattle.vt_facts.proofs.MemberLemmas.{Contains-find, find-some}
use Rattle.vt_facts.proofs.CountLemmas.{count_by-append, count_by-map}
use Rattle.vt_facts.proofs.PositionLemmas.{IsAt-position}
use Rattle.vt_model.proofs.Valid.Names.{times-is_distinct, times-objects, is_name-itself}
use Rattle.vt_model.proofs.SearchLemmas.{count_by-at, position-only}
use Rattle.vt_model_json.specs.Dump.{name_of}
use Rattle.vt_dump_law.proofs.Lists.{only_one, count_by-filtered, same_if_equal}

-- ---- objects

-- objects are ordered by number
pub object_order_total : IsTotalOrder object_order
object_order_total = on_total (λ o. o.number.0) nat_cmp_total

-- objects with one number are told apart by nothing
object_order-same : (o p : Object) → o.number.0 ≡ p.number.0 → object_order o p ≡ Equal
object_order-same o p same = grind (arith, nat_tests)

module _ (meta : Metamodel) (g : Model) (valid : IsValid meta g) where
  -- a number is that of one object
  pub same_object_of_number : (o p : Object) → Contains g.live o → Contains g.live p → o.number.0 ≡ p.number.0 → o ≡ p
  same_object_of_number o p first second same = same_if_equal object_order object_order_total g.live o p valid.objects_rise first second (object_order-same o p same)

  -- an object's name finds it
  pub object_named-live : (o : Object) → Contains g.live o → object_named g o.name ≡ Some o
  object_named-live o there =
      let found = find-some (λ p. is_name p.name o.name) g.live o there (is_name-itself o.name) in
      let stands = Contains-find (λ p. is_name p.name o.name) g.live found.0 found.1 in
      let once = times-is_distinct (map (λ o. o.name) g.live ++ map (λ o. o.name) g.gone) valid.names_differ o.name in
      let all = times-objects o.name g.live g.gone in
      let is : found.0 ≡ o = only_one (λ p. is_name p.name o.name) g.live found.0 o (omega (arith, once, all)) stands.0 there stands.1 (is_name-itself o.name) in
      found.1 ∙ ap Some is

  -- an object's number finds its name
  pub name_of-live : (o : Object) → Contains g.live o → name_of g o.number ≡ o.name
  name_of-live o there =
      let found = find-some (λ p. p.number.0 == o.number.0) g.live o there (eq-eqb o.number.0 o.number.0 refl) in
      let stands = Contains-find (λ p. p.number.0 == o.number.0) g.live found.0 found.1 in
      let is : found.0 ≡ o = same_object_of_number found.0 o stands.0 there (eqb-true found.0.number.0 o.number.0 stands.1) in
      ap (λ p. unwrap_or (option_map (λ (q : Object). q.name) p) []) found.1 ∙ ap (λ p. p.name) is

  -- an object's class is there
  pub class-live : (o : Object) → Contains g.live o → o.class.0 < length meta.classes
  class-live o there = by (slice_get meta.classes o.class.0) refl (All-contains (IsConcrete meta) g.live o valid.classes_concrete there)
    where
      by : (c : Option ClassInfo) → slice_get meta.classes o.class.0 ≡ c → IsSomeAnd c (λ info. info.is_abstract ≡ false) → o.class.0 < length meta.classes
      by None at concrete = absurd concrete
      by (Some info) at concrete = slice_get_within meta.classes o.class.0 info at

-- ---- features

-- where none passes, a search finds none
position-none : {X : Type 0} (p : X → Bool) (xs : List X) → count_by p xs ≡ 0 → position p xs ≡ None
position-none p xs none = by (position p xs) refl
  where
    by : (r : Option ℕ) → position p xs ≡ r → r ≡ None
    by None e = refl
    by (Some i) e = let at = IsAt-position p xs i e in let some = count_by-at p xs i at.item at.there at.passes in absurd (omega (arith, some, none))

module _ (meta : Metamodel) (sound : IsSound meta) (c : ClassId) (there : c.0 < length meta.classes) where
  -- of a name a class has one feature at most
  once : (name : List ℕ) → count_by (is_attribute_of meta c name) meta.attributes + count_by (is_reference_of meta c name) meta.references ≤ 1
  once name =
      let most = times-is_distinct (feature_names meta c) (sound.features c there) name in
      let has_attribute = λ (a : AttrInfo). isa meta c a.class in
      let has_reference = λ (r : RefInfo). isa meta c r.class in
      let both = count_by-append (λ n. is_name n name) (map (λ (a : AttrInfo). a.name) (filter has_attribute meta.attributes)) (map (λ (r : RefInfo). r.name) (filter has_reference meta.references)) in
      let first = count_by-map (λ n. is_name n name) (λ (a : AttrInfo). a.name) (filter has_attribute meta.attributes) in
      let second = count_by-map (λ n. is_name n name) (λ (r : RefInfo). r.name) (filter has_reference meta.references) in
      let attributes = count_by-filtered (λ (a : AttrInfo). is_name a.name name) has_attribute meta.attributes in
      let references = count_by-filtered (λ (r : RefInfo). is_name r.name name) has_reference meta.references in
      omega (arith, most, both, first, second, attributes, references)

  -- the name of an attribute finds it
  pub feature-attribute : (a : AttrId) (info : AttrInfo) → slice_get meta.attributes a.0 ≡ Some info → isa meta c info.class ≡ true → feature meta c info.name ≡ Some (Attr a)
  feature-attribute a info at has =
      let most = once info.name in
      let found = position-only (is_attribute_of meta c info.name) meta.attributes a.0 info (omega (arith, most)) at
      (and_from (isa meta c info.class) (is_name info.name info.name) has (is_name-itself info.name)) in
      ap (λ p. or_reference p (position (is_reference_of meta c info.name) meta.references)) found

  -- and that of a reference finds it
  pub feature-reference : (r : RefId) (info : RefInfo) → slice_get meta.references r.0 ≡ Some info → isa meta c info.class ≡ true → feature meta c info.name ≡ Some (Ref r)
  feature-reference r info at has =
      let most = once info.name in
      let passes = and_from (isa meta c info.class) (is_name info.name info.name) has (is_name-itself info.name) in
      let some = count_by-at (is_reference_of meta c info.name) meta.references r.0 info at passes in
      let none = position-none (is_attribute_of meta c info.name) meta.attributes (omega (arith, most, some)) in
      let found = position-only (is_reference_of meta c info.name) meta.references r.0 info (omega (arith, most)) at passes in
      ap (λ p. or_reference p (position (is_reference_of meta c info.name) meta.references)) none ∙ ap (or_reference None) found
