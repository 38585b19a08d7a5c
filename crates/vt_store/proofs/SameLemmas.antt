-- The tests of whole equality tell whether two items are equal.
use Rattle.std.proofs.Common.{◌≡◌, ℕ, List, refl, ap, Bool, true, false}
use Rattle.std.proofs.lemmas.Bool.{false≢true}
use Rattle.std.specs.Prelude.{◌&&◌, ◌==◌, Decides}
use Rattle.std.specs.Ordering.{eq_by_cmp}
use Rattle.std.specs.Cmp.Lexicographic.{bytes_decides}
use Rattle.std.proofs.lemmas.Bool.Decides.{Decides-eqb}
use Rattle.vt_base.specs.Order.{value_cmp}
use Rattle.vt_base.specs.Inside.OrderLaws.{IsTotalOrder-value_cmp}
use Rattle.vt_base.proofs.OrderLemmas.{exact-value_cmp, eq_by_cmp-Decides}
use Rattle.vt_facts.specs.Names.{is_name}
use Rattle.vt_model.specs.declared.model.Object.{Object}
use Rattle.vt_model.specs.declared.model.GoneObject.{GoneObject}
use Rattle.vt_model.specs.declared.model.AttributeValue.{AttributeValue}
use Rattle.vt_model.specs.declared.model.Link.{Link}
use Rattle.vt_store.specs.Edits.{same_object, same_gone, same_value, same_link}

-- two tests together
Decides-and : (a b : Bool) {P Q : Type 0} → Decides a P → Decides b Q → Decides (a && b) (P × Q)
Decides-and true b first second = ((λ is. (first.0 refl, second.0 is)), (λ both. second.1 both.1))
Decides-and false b first second = ((λ is. absurd (false≢true is)), (λ both. absurd (false≢true (first.1 both.0))))

Decides-is_name : (s t : List ℕ) → Decides (is_name s t) (s ≡ t)
Decides-is_name s t = bytes_decides s t

Decides-kept : {a : Bool} {P Q : Type 0} → (P → Q) → (Q → P) → Decides a P → Decides a Q
Decides-kept to back d = ((λ is. to (d.0 is)), (λ q. d.1 (back q)))

pub Decides-same_link : (a b : Link) → Decides (same_link a b) (a ≡ b)
Decides-same_link a b = Decides-kept
    (λ parts i. record { source = record { 0 = parts.0.0 i }; reference = record { 0 = parts.0.1 i }; target = record { 0 = parts.1 i } })
    (λ is. ((ap (λ l. l.source.0) is, ap (λ l. l.reference.0) is), ap (λ l. l.target.0) is))
    (Decides-and (a.source.0 == b.source.0 && a.reference.0 == b.reference.0) (a.target.0 == b.target.0)
    (Decides-and (a.source.0 == b.source.0) (a.reference.0 == b.reference.0) (Decides-eqb a.source.0 b.source.0) (Decides-eqb a.reference.0 b.reference.0))
    (Decides-eqb a.target.0 b.target.0))

pub Decides-same_object : (a b : Object) → Decides (same_object a b) (a ≡ b)
Decides-same_object a b = Decides-kept
    (λ parts i. record { number = record { 0 = parts.0.0 i }; name = parts.0.1 i; class = record { 0 = parts.1 i } })
    (λ is. ((ap (λ o. o.number.0) is, ap (λ o. o.name) is), ap (λ o. o.class.0) is))
    (Decides-and (a.number.0 == b.number.0 && is_name a.name b.name) (a.class.0 == b.class.0)
    (Decides-and (a.number.0 == b.number.0) (is_name a.name b.name) (Decides-eqb a.number.0 b.number.0) (Decides-is_name a.name b.name))
    (Decides-eqb a.class.0 b.class.0))

pub Decides-same_gone : (a b : GoneObject) → Decides (same_gone a b) (a ≡ b)
Decides-same_gone a b = Decides-kept
    (λ parts i. record { number = record { 0 = parts.0 i }; name = parts.1 i })
    (λ is. (ap (λ o. o.number.0) is, ap (λ o. o.name) is))
    (Decides-and (a.number.0 == b.number.0) (is_name a.name b.name) (Decides-eqb a.number.0 b.number.0) (Decides-is_name a.name b.name))

pub Decides-same_value : (a b : AttributeValue) → Decides (same_value a b) (a ≡ b)
Decides-same_value a b = Decides-kept
    (λ parts i. record { object = record { 0 = parts.0.0 i }; attribute = record { 0 = parts.0.1 i }; value = parts.1 i })
    (λ is. ((ap (λ t. t.object.0) is, ap (λ t. t.attribute.0) is), ap (λ t. t.value) is))
    (Decides-and (a.object.0 == b.object.0 && a.attribute.0 == b.attribute.0) (eq_by_cmp value_cmp a.value b.value)
    (Decides-and (a.object.0 == b.object.0) (a.attribute.0 == b.attribute.0) (Decides-eqb a.object.0 b.object.0) (Decides-eqb a.attribute.0 b.attribute.0))
    (eq_by_cmp-Decides IsTotalOrder-value_cmp exact-value_cmp a.value b.value))
