-- What is asked of the links at an object is what its ends list, on both sides.
use Rattle.std.proofs.Common.{◌≡◌, ℕ, List, [], ◌∷◌, map, refl, sym, ap, subst, ◌∙◌, true, arith, eq-eqb}
use Rattle.std.specs.Prelude.{◌==◌, Contains, filter}
use Rattle.std.specs.List.Sorted.{IsStrictlySortedBy}
use Rattle.std.specs.Ordering.{nat_cmp, ordering_then}
use Rattle.std.specs.declared.cmp.Ordering.{Ordering}
use Rattle.std.specs.declared.cmp.Ordering.TheVariants.{Less}
use Rattle.std.proofs.lemmas.Bool.{and_parts, and_from}
use Rattle.std.proofs.lemmas.Bool.Decides.{nat_tests}
use Rattle.std.proofs.lemmas.List.Kept.{IsStrictlySortedBy-filter}
use Rattle.vt_base.specs.declared.numbers.ObjId.{ObjId}
use Rattle.vt_base.specs.declared.numbers.RefId.{RefId}
use Rattle.vt_model.specs.Linking.{link_order}
use Rattle.vt_model.specs.declared.model.Link.{Link}
use Rattle.vt_facts.proofs.MemberLemmas.{Contains-head, Contains-behind, Contains-map, Contains-filter, Contains-from_filter, Contains-from_map}
use Rattle.vt_slots.specs.Ends.{number_order, objects_of}
use Rattle.vt_slots.specs.Slots.{NumbersRise, ends_at}
use Rattle.vt_slots.specs.declared.slot.Side.{Side}
use Rattle.vt_slots.specs.declared.slot.Side.TheVariants.{Outgoing, Incoming}
use Rattle.vt_slots.specs.declared.slot.Slot.{Slot}
use Rattle.vt_graph.specs.Asked.{is_at, other_of}
use Rattle.vt_graph.specs.Inside.Indexed.{IsTwoEnded}
use Rattle.vt_graph.specs.Inside.Ended.{AllEndsRise, near_of}
use Rattle.vt_facts.proofs.RisingLemmas.{rises-none, rises-cons, first_below, rest_rises, same_items}
use Rattle.vt_graph.proofs.SlotLemmas.{same_object, equal_numbers}
use Rattle.vt_graph.proofs.Linked.Ends.{same_reference, number_order_total, objects_of_rise}
use Rattle.vt_graph.proofs.Linked.Stored.{from_to, same_ends, all_links, link_listed, listed_link, links_rise}

-- ---- a list whose items are changed

module _ {X Y : Type 0} (R : X → X → Ordering) (S : Y → Y → Ordering) (f : X → Y) where
  rises_mapped : (xs : List X) → IsStrictlySortedBy R xs → ((x y : X) → Contains xs x → Contains xs y → R x y ≡ Less → S (f x) (f y) ≡ Less) → IsStrictlySortedBy S (map f xs)
  rises_mapped [] rise below = rises-none S
  rises_mapped (x ∷ xs) rise below = rises-cons S (f x) (map f xs) first
      (rises_mapped xs (rest_rises R x xs rise) (λ y z one other. below y z (Contains-behind x y xs one) (Contains-behind x z xs other)))
    where
      first : (y : Y) → Contains (map f xs) y → S (f x) y ≡ Less
      first y there =
          let at = Contains-from_map f xs y there in
          subst (λ z. S (f x) z ≡ Less) at.2 (below x at.0 (Contains-head x xs) (Contains-behind x at.0 xs at.1) (first_below R x xs rise at.0 at.1))

-- ---- the link on a side

-- from the object, or to it
abbrev pub link_on : Side → ObjId → RefId → ObjId → Link
link_on Outgoing o r x = from_to o r x
link_on Incoming o r x = from_to x r o

-- an object and a reference that are asked for
pub is_at-parts : (o : ObjId) (side : Side) (r : RefId) (link : Link) → is_at o side r link ≡ true → (near_of side link ≡ o) × (link.reference ≡ r)
is_at-parts o Outgoing r link e =
    let parts = and_parts (link.source.0 == o.0) (link.reference.0 == r.0) e in
    (same_object link.source o (equal_numbers link.source.0 o.0 parts.0), same_reference link.reference r (equal_numbers link.reference.0 r.0 parts.1))
is_at-parts o Incoming r link e =
    let parts = and_parts (link.target.0 == o.0) (link.reference.0 == r.0) e in
    (same_object link.target o (equal_numbers link.target.0 o.0 parts.0), same_reference link.reference r (equal_numbers link.reference.0 r.0 parts.1))

is_at-link_on : (o : ObjId) (side : Side) (r : RefId) (x : ObjId) → is_at o side r (link_on side o r x) ≡ true
is_at-link_on o Outgoing r x = and_from (o.0 == o.0) (r.0 == r.0) (eq-eqb o.0 o.0 refl) (eq-eqb r.0 r.0 refl)
is_at-link_on o Incoming r x = and_from (o.0 == o.0) (r.0 == r.0) (eq-eqb o.0 o.0 refl) (eq-eqb r.0 r.0 refl)

other_of-link_on : (o : ObjId) (side : Side) (r : RefId) (x : ObjId) → other_of side (link_on side o r x) ≡ x
other_of-link_on o Outgoing r x = refl
other_of-link_on o Incoming r x = refl

-- a link with these parts
is_link_on : (side : Side) (o : ObjId) (r : RefId) (link : Link) → near_of side link ≡ o → link.reference ≡ r → link ≡ link_on side o r (other_of side link)
is_link_on Outgoing o r link near reference = same_ends link (from_to o r link.target) near reference refl
is_link_on Incoming o r link near reference = same_ends link (from_to link.source r o) refl reference near

-- ---- in order

targets_below : (a b c x y z : ℕ) → ordering_then (nat_cmp a x) (ordering_then (nat_cmp b y) (nat_cmp c z)) ≡ Less → a ≡ x → b ≡ y → nat_cmp c z ≡ Less
targets_below a b c x y z less first second = grind (arith, nat_tests)

sources_below : (a b c x y z : ℕ) → ordering_then (nat_cmp a x) (ordering_then (nat_cmp b y) (nat_cmp c z)) ≡ Less → b ≡ y → c ≡ z → nat_cmp a x ≡ Less
sources_below a b c x y z less second third = grind (arith, nat_tests)

-- links with one object and one reference rise by the other object
others_below : (side : Side) (a b : Link) → near_of side a ≡ near_of side b → a.reference ≡ b.reference → link_order a b ≡ Less → number_order (other_of side a) (other_of side b) ≡ Less
others_below Outgoing a b near reference less =
    targets_below a.source.0 a.reference.0 a.target.0 b.source.0 b.reference.0 b.target.0 less (ap (λ (p : ObjId). p.0) near) (ap (λ (r : RefId). r.0) reference)
others_below Incoming a b near reference less =
    sources_below a.source.0 a.reference.0 a.target.0 b.source.0 b.reference.0 b.target.0 less (ap (λ (r : RefId). r.0) reference) (ap (λ (p : ObjId). p.0) near)

module _ (links : List Link) (o : ObjId) (side : Side) (r : RefId) where
  -- the objects at the other ends, among some links
  abbrev pub others_among : List ObjId
  others_among = map (other_of side) (filter (is_at o side r) links)

  others_rise : IsStrictlySortedBy link_order links → IsStrictlySortedBy number_order others_among
  others_rise rise = rises_mapped link_order number_order (other_of side) (filter (is_at o side r) links) (IsStrictlySortedBy-filter link_order (is_at o side r) links rise) below
    where
      below : (a b : Link) → Contains (filter (is_at o side r) links) a → Contains (filter (is_at o side r) links) b → link_order a b ≡ Less
          → number_order (other_of side a) (other_of side b) ≡ Less
      below a b one other less =
          let first = is_at-parts o side r a (Contains-from_filter (is_at o side r) links a one).1 in
          let second = is_at-parts o side r b (Contains-from_filter (is_at o side r) links b other).1 in
          others_below side a b (first.0 ∙ sym second.0) (first.1 ∙ sym second.1) less

  -- such an object is at the other end of a link
  pub other_linked : (x : ObjId) → Contains others_among x → Contains links (link_on side o r x)
  other_linked x there =
      let at = Contains-from_map (other_of side) (filter (is_at o side r) links) x there in
      let was = Contains-from_filter (is_at o side r) links at.0 at.1 in
      let parts = is_at-parts o side r at.0 was.1 in
      subst (Contains links) (is_link_on side o r at.0 parts.0 parts.1 ∙ ap (link_on side o r) at.2) was.0

  pub linked_other : (x : ObjId) → Contains links (link_on side o r x) → Contains others_among x
  linked_other x there = subst (Contains others_among) (other_of-link_on o side r x)
      (Contains-map (other_of side) (filter (is_at o side r) links) (link_on side o r x) (Contains-filter (is_at o side r) links (link_on side o r x) there (is_at-link_on o side r x)))

-- ---- the ends that list them

module _ (slots : List Slot) (rise : NumbersRise slots) (ends : AllEndsRise slots) (two : IsTwoEnded slots) where
  pub linked_listed : (o : ObjId) (side : Side) (r : RefId) (x : ObjId) → Contains (all_links slots) (link_on side o r x) → Contains (objects_of (ends_at slots o side) r) x
  linked_listed o Outgoing r x there = link_listed slots rise ends (from_to o r x) there
  linked_listed o Incoming r x there = (two (from_to x r o)).0 (link_listed slots rise ends (from_to x r o) there)

  pub listed_linked : (o : ObjId) (side : Side) (r : RefId) (x : ObjId) → Contains (objects_of (ends_at slots o side) r) x → Contains (all_links slots) (link_on side o r x)
  listed_linked o Outgoing r x there = listed_link slots rise ends (from_to o r x) there
  listed_linked o Incoming r x there = listed_link slots rise ends (from_to x r o) ((two (from_to x r o)).1 there)

  pub others_are : (o : ObjId) (side : Side) (r : RefId) → others_among (all_links slots) o side r ≡ objects_of (ends_at slots o side) r
  others_are o side r = same_items number_order number_order_total (others_among (all_links slots) o side r) (objects_of (ends_at slots o side) r)
      (others_rise (all_links slots) o side r (links_rise slots rise ends)) (objects_of_rise (ends_at slots o side) (ends o side) r)
      (λ x there. linked_listed o side r x (other_linked (all_links slots) o side r x there))
      (λ x there. linked_other (all_links slots) o side r x (listed_linked o side r x there))
