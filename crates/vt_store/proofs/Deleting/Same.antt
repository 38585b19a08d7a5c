-- The tests for the same object, deleted object, value and link tell what is equal.
use Rattle.std.proofs.Common.{◌≡◌, refl, Bool, true}
use Rattle.std.specs.Prelude.{◌&&◌, ◌==◌}
use Rattle.std.specs.Ordering.{eq_by_cmp}
use Rattle.std.specs.Cmp.Lexicographic.{bytes_decides}
use Rattle.std.proofs.lemmas.Bool.{and_parts, and_from, eqb-true, eq-eqb}
use Rattle.vt_base.specs.Order.{value_cmp}
use Rattle.vt_base.specs.Inside.OrderLaws.{IsTotalOrder-value_cmp}
use Rattle.vt_base.proofs.OrderLemmas.{exact-value_cmp, eq_by_cmp-Decides}
use Rattle.vt_facts.specs.Names.{is_name}
use Rattle.vt_store.specs.Edits.{same_object, same_gone, same_value, same_link}
use Rattle.vt_graph.proofs.Linked.Changed.{is_link-same, is_link-itself}

-- the test passes exactly where the two are equal
pub record TellsEqual {T : Type 0} (same : T → T → Bool) : Type 0 where
  pub exact : (x y : T) → same x y ≡ true → x ≡ y
  pub itself : (x : T) → same x x ≡ true

pub TellsEqual-object : TellsEqual same_object
TellsEqual-object = record {
  exact = λ x y e.
      let parts = and_parts (x.number.0 == y.number.0 && is_name x.name y.name) (x.class.0 == y.class.0) e in
      let first = and_parts (x.number.0 == y.number.0) (is_name x.name y.name) parts.0 in
      let number = eqb-true x.number.0 y.number.0 first.0 in
      let name = (bytes_decides x.name y.name).0 first.1 in
      let class = eqb-true x.class.0 y.class.0 parts.1 in
      λ i. record { number = record { 0 = number i }; name = name i; class = record { 0 = class i } };
  itself = λ x. and_from (x.number.0 == x.number.0 && is_name x.name x.name) (x.class.0 == x.class.0)
      (and_from (x.number.0 == x.number.0) (is_name x.name x.name) (eq-eqb x.number.0 x.number.0 refl) ((bytes_decides x.name x.name).1 refl))
      (eq-eqb x.class.0 x.class.0 refl);
}

pub TellsEqual-gone : TellsEqual same_gone
TellsEqual-gone = record {
  exact = λ x y e.
      let parts = and_parts (x.number.0 == y.number.0) (is_name x.name y.name) e in
      let number = eqb-true x.number.0 y.number.0 parts.0 in
      let name = (bytes_decides x.name y.name).0 parts.1 in
      λ i. record { number = record { 0 = number i }; name = name i };
  itself = λ x. and_from (x.number.0 == x.number.0) (is_name x.name x.name) (eq-eqb x.number.0 x.number.0 refl) ((bytes_decides x.name x.name).1 refl);
}

pub TellsEqual-value : TellsEqual same_value
TellsEqual-value = record {
  exact = λ x y e.
      let parts = and_parts (x.object.0 == y.object.0 && x.attribute.0 == y.attribute.0) (eq_by_cmp value_cmp x.value y.value) e in
      let first = and_parts (x.object.0 == y.object.0) (x.attribute.0 == y.attribute.0) parts.0 in
      let object = eqb-true x.object.0 y.object.0 first.0 in
      let attribute = eqb-true x.attribute.0 y.attribute.0 first.1 in
      let value = (eq_by_cmp-Decides IsTotalOrder-value_cmp exact-value_cmp x.value y.value).0 parts.1 in
      λ i. record { object = record { 0 = object i }; attribute = record { 0 = attribute i }; value = value i };
  itself = λ x. and_from (x.object.0 == x.object.0 && x.attribute.0 == x.attribute.0) (eq_by_cmp value_cmp x.value x.value)
      (and_from (x.object.0 == x.object.0) (x.attribute.0 == x.attribute.0) (eq-eqb x.object.0 x.object.0 refl) (eq-eqb x.attribute.0 x.attribute.0 refl))
      ((eq_by_cmp-Decides IsTotalOrder-value_cmp exact-value_cmp x.value x.value).1 refl);
}

pub TellsEqual-link : TellsEqual same_link
TellsEqual-link = record { exact = is_link-same; itself = is_link-itself }
