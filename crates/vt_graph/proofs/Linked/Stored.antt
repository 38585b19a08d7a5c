-- The links of a model are those that stand at their sources' outgoing ends, and they rise.
use Rattle.std.proofs.Common.{◌≡◌, List, [], ◌∷◌, map, refl, sym, ap, subst, ◌∙◌, Option, Some, None, option_and_then}
use Rattle.std.specs.Prelude.{Contains}
use Rattle.std.specs.List.{flat_map}
use Rattle.std.specs.List.Sorted.{IsStrictlySortedBy}
use Rattle.std.specs.Cmp.{IsTotalOrder, nat_cmp_total}
use Rattle.std.specs.Ordering.{nat_cmp, ordering_then}
use Rattle.std.specs.declared.cmp.Ordering.TheVariants.{Less, Equal}
use Rattle.std.proofs.lemmas.Cmp.{then_total, on_total, tied_itself}
use Rattle.std.proofs.lemmas.List.Elements.{All-contains}
use Rattle.vt_base.specs.declared.numbers.ObjId.{ObjId}
use Rattle.vt_base.specs.declared.numbers.RefId.{RefId}
use Rattle.vt_model.specs.Linking.{link_order}
use Rattle.vt_model.specs.declared.model.Link.{Link}
use Rattle.vt_facts.proofs.MemberLemmas.{Contains-nil, Contains-map, Contains-from_map}
use Rattle.vt_slots.specs.Ends.{EndList, number_order, ObjectsRise, reference_order, objects_of}
use Rattle.vt_slots.specs.Slots.{slot_order, NumbersRise, slot_at, body_at, ends_on, ends_at}
use Rattle.vt_slots.specs.declared.slot.Side.{Side}
use Rattle.vt_slots.specs.declared.slot.Side.TheVariants.{Outgoing}
use Rattle.vt_slots.specs.declared.slot.Body.{Body}
use Rattle.vt_slots.specs.declared.slot.Slot.{Slot}
use Rattle.vt_graph.specs.Inside.Stored.{list_links, body_links}
use Rattle.vt_graph.specs.Inside.Ended.{EndsRise, AllEndsRise}
use Rattle.vt_facts.proofs.RisingLemmas.{rises-none, rises-cons, first_below, rest_rises}
use Rattle.vt_facts.proofs.ChosenLemmas.{Contains-flat_map, Contains-from_flat_map, rises-flat_map}
use Rattle.vt_graph.proofs.SlotLemmas.{same_object, slot_at_stands, slot_at_number, slot_at_is, body_at_found, ends_at_body, ends_at_none}
use Rattle.vt_graph.proofs.Linked.Ends.{same_reference, list_with, objects_of_is}
use Rattle.vt_facts.proofs.NumberLemmas.{threes_Equal}

-- ---- links

-- a link of its three parts
abbrev pub from_to : ObjId → RefId → ObjId → Link
from_to source r target = record { source = source; reference = r; target = target }

-- links with the same ends and reference are the same
pub same_ends : (a b : Link) → a.source ≡ b.source → a.reference ≡ b.reference → a.target ≡ b.target → a ≡ b
same_ends a b source reference target = λ i. record { source = source i; reference = reference i; target = target i }

pub link_order_total : IsTotalOrder link_order
link_order_total = then_total (on_total (λ l. l.source.0) nat_cmp_total) (then_total (on_total (λ l. l.reference.0) nat_cmp_total) (on_total (λ l. l.target.0) nat_cmp_total))

-- links that the order doesn't tell apart are the same
pub link_order-Equal : (a b : Link) → link_order a b ≡ Equal → a ≡ b
link_order-Equal a b e =
    let same = threes_Equal a.source.0 a.reference.0 a.target.0 b.source.0 b.reference.0 b.target.0 e in
    same_ends a b (same_object a.source b.source same.0) (same_reference a.reference b.reference same.1) (same_object a.target b.target same.2)

-- a link is below another by its source, by its reference, or by its target
pub below_by_source : (a b : Link) → nat_cmp a.source.0 b.source.0 ≡ Less → link_order a b ≡ Less
below_by_source a b less = ap (λ r. ordering_then r (ordering_then (nat_cmp a.reference.0 b.reference.0) (nat_cmp a.target.0 b.target.0))) less

pub below_by_reference : (a b : Link) → a.source ≡ b.source → nat_cmp a.reference.0 b.reference.0 ≡ Less → link_order a b ≡ Less
below_by_reference a b source less =
    let tied : nat_cmp a.source.0 b.source.0 ≡ Equal = subst (λ (o : ObjId). nat_cmp a.source.0 o.0 ≡ Equal) source (tied_itself nat_cmp_total a.source.0) in
    ap (λ r. ordering_then r (ordering_then (nat_cmp a.reference.0 b.reference.0) (nat_cmp a.target.0 b.target.0))) tied
    ∙ ap (λ r. ordering_then r (nat_cmp a.target.0 b.target.0)) less

pub below_by_target : (a b : Link) → a.source ≡ b.source → a.reference ≡ b.reference → nat_cmp a.target.0 b.target.0 ≡ Less → link_order a b ≡ Less
below_by_target a b source reference less =
    let tied : nat_cmp a.source.0 b.source.0 ≡ Equal = subst (λ (o : ObjId). nat_cmp a.source.0 o.0 ≡ Equal) source (tied_itself nat_cmp_total a.source.0) in
    let tied_too : nat_cmp a.reference.0 b.reference.0 ≡ Equal = subst (λ (r : RefId). nat_cmp a.reference.0 r.0 ≡ Equal) reference (tied_itself nat_cmp_total a.reference.0) in
    ap (λ r. ordering_then r (ordering_then (nat_cmp a.reference.0 b.reference.0) (nat_cmp a.target.0 b.target.0))) tied
    ∙ ap (λ r. ordering_then r (nat_cmp a.target.0 b.target.0)) tied_too ∙ less

-- ---- the links of a list and of a body

-- a link stands for the source, the reference and a target
pub record IsOf (o : ObjId) (r : RefId) (targets : List ObjId) (link : Link) : Type 0 where
  pub source_is : link.source ≡ o
  pub reference_is : link.reference ≡ r
  pub target_there : Contains targets link.target

module _ (o : ObjId) (l : EndList) (link : Link) where
  pub Contains-list_links : IsOf o l.reference l.objects link → Contains (list_links o l) link
  Contains-list_links of = subst (Contains (list_links o l)) (same_ends (from_to o l.reference link.target) link (sym of.source_is) (sym of.reference_is) refl)
      (Contains-map (from_to o l.reference) l.objects link.target of.target_there)

  pub Contains-from_list_links : Contains (list_links o l) link → IsOf o l.reference l.objects link
  Contains-from_list_links there =
      let at = Contains-from_map (from_to o l.reference) l.objects link there in
      record {
        source_is = sym (ap (λ (k : Link). k.source) at.2);
        reference_is = sym (ap (λ (k : Link). k.reference) at.2);
        target_there = subst (Contains l.objects) (ap (λ (k : Link). k.target) at.2) at.1;
      }

module _ (o : ObjId) (body : Body) (link : Link) where
  pub Contains-body_links : link.source ≡ o → Contains (objects_of body.outgoing link.reference) link.target → Contains (body_links o (Some body)) link
  Contains-body_links source there =
      let at = list_with body.outgoing link.reference link.target there in
      Contains-flat_map (list_links o) body.outgoing at.0 link at.1
      (Contains-list_links o at.0 link (record { source_is = source; reference_is = sym at.2; target_there = at.3 }))

  pub Contains-from_body_links : EndsRise body.outgoing → Contains (body_links o (Some body)) link → IsOf o link.reference (objects_of body.outgoing link.reference) link
  Contains-from_body_links rise there =
      let at = Contains-from_flat_map (list_links o) body.outgoing link there in
      let of = Contains-from_list_links o at.0 link at.2 in
      record {
        source_is = of.source_is;
        reference_is = refl;
        target_there = subst (λ os. Contains os link.target) (sym (ap (objects_of body.outgoing) of.reference_is ∙ objects_of_is body.outgoing rise at.0 at.1)) of.target_there;
      }

-- they rise
list_links_rise : (o : ObjId) (r : RefId) (targets : List ObjId) → ObjectsRise targets → IsStrictlySortedBy link_order (map (from_to o r) targets)
list_links_rise o r [] rise = rises-none link_order
list_links_rise o r (t ∷ ts) rise = rises-cons link_order (from_to o r t) (map (from_to o r) ts) below (list_links_rise o r ts (rest_rises number_order t ts rise))
  where
    below : (l : Link) → Contains (map (from_to o r) ts) l → link_order (from_to o r t) l ≡ Less
    below l there =
        let at = Contains-from_map (from_to o r) ts l there in
        subst (λ k. link_order (from_to o r t) k ≡ Less) at.2 (below_by_target (from_to o r t) (from_to o r at.0) refl refl (first_below number_order t ts rise at.0 at.1))

body_links_rise : (o : ObjId) (body : Body) → EndsRise body.outgoing → IsStrictlySortedBy link_order (body_links o (Some body))
body_links_rise o body rise = rises-flat_map reference_order link_order (list_links o) body.outgoing rise.references
    (λ l there. list_links_rise o l.reference l.objects (All-contains (λ m. ObjectsRise m.objects) body.outgoing l rise.objects there)) below
  where
    below : (l m : EndList) (a b : Link) → reference_order l m ≡ Less → Contains (list_links o l) a → Contains (list_links o m) b → link_order a b ≡ Less
    below l m a b less of other =
        let first = Contains-from_list_links o l a of in
        let second = Contains-from_list_links o m b other in
        below_by_reference a b (first.source_is ∙ sym second.source_is)
        (subst (λ (r : RefId). nat_cmp a.reference.0 r.0 ≡ Less) (sym second.reference_is) (subst (λ (r : RefId). nat_cmp r.0 m.reference.0 ≡ Less) (sym first.reference_is) less))

-- ---- the links of all slots

abbrev pub slot_links : Slot → List Link
slot_links s = body_links s.number s.body

abbrev pub all_links : List Slot → List Link
all_links slots = flat_map slot_links slots

-- a live object has a slot
pub slot_of_body : (slots : List Slot) (o : ObjId) (body : Body) → body_at slots o ≡ Some body → (s : Slot) × (slot_at slots o ≡ Some s) × (s.body ≡ Some body)
slot_of_body slots o body live = by (slot_at slots o) refl live
  where
    by : (f : Option Slot) → slot_at slots o ≡ f → option_and_then (λ (s : Slot). s.body) f ≡ Some body → (s : Slot) × (slot_at slots o ≡ Some s) × (s.body ≡ Some body)
    by None e none = cc
    by (Some s) e found = (s, e, found)

module _ (slots : List Slot) (rise : NumbersRise slots) (ends : AllEndsRise slots) where
  -- the ends of a slot's body are those at its number
  pub ends_of_slot : (s : Slot) (body : Body) → Contains slots s → s.body ≡ Some body → (side : Side) → ends_at slots s.number side ≡ ends_on side body
  ends_of_slot s body there is side = ends_at_body slots s.number body (body_at_found slots s.number s (slot_at_is slots s.number rise s there refl) ∙ is) side

  -- a link of the model is listed at its source
  pub link_listed : (link : Link) → Contains (all_links slots) link → Contains (objects_of (ends_at slots link.source Outgoing) link.reference) link.target
  link_listed link there =
      let at = Contains-from_flat_map slot_links slots link there in by at.0 at.1 at.0.body refl at.2
    where
      by : (s : Slot) → Contains slots s → (b : Option Body) → s.body ≡ b → Contains (body_links s.number b) link
          → Contains (objects_of (ends_at slots link.source Outgoing) link.reference) link.target
      by s stands None e none = absurd (Contains-nil link none)
      by s stands (Some body) e of =
          let are : ends_at slots s.number Outgoing ≡ body.outgoing = ends_of_slot s body stands e Outgoing in
          let parts = Contains-from_body_links s.number body link (subst EndsRise are (ends s.number Outgoing)) of in
          subst (λ o. Contains (objects_of (ends_at slots o Outgoing) link.reference) link.target) (sym parts.source_is)
          (subst (λ ls. Contains (objects_of ls link.reference) link.target) (sym are) parts.target_there)

  -- and what is listed at an object is a link of the model
  pub listed_link : (link : Link) → Contains (objects_of (ends_at slots link.source Outgoing) link.reference) link.target → Contains (all_links slots) link
  listed_link link there = by (body_at slots link.source) refl
    where
      by : (b : Option Body) → body_at slots link.source ≡ b → Contains (all_links slots) link
      by None e = absurd (Contains-nil link.target (subst (λ ls. Contains (objects_of ls link.reference) link.target) (ends_at_none slots link.source e Outgoing) there))
      by (Some body) e =
          let at = slot_of_body slots link.source body e in
          let of = Contains-body_links at.0.number body link (sym (slot_at_number slots link.source at.0 at.1))
          (subst (λ ls. Contains (objects_of ls link.reference) link.target) (ends_at_body slots link.source body e Outgoing) there) in
          Contains-flat_map slot_links slots at.0 link (slot_at_stands slots link.source at.0 at.1) (subst (λ b. Contains (body_links at.0.number b) link) (sym at.2) of)

  -- the links rise
  pub links_rise : IsStrictlySortedBy link_order (all_links slots)
  links_rise = rises-flat_map slot_order link_order slot_links slots rise (λ s there. own s there s.body refl) below
    where
      own : (s : Slot) → Contains slots s → (b : Option Body) → s.body ≡ b → IsStrictlySortedBy link_order (body_links s.number b)
      own s there None e = rises-none link_order
      own s there (Some body) e = body_links_rise s.number body (subst EndsRise (ends_of_slot s body there e Outgoing) (ends s.number Outgoing))

      from : (s : Slot) (b : Option Body) (l : Link) → Contains (body_links s.number b) l → l.source ≡ s.number
      from s None l none = absurd (Contains-nil l none)
      from s (Some body) l of = let at = Contains-from_flat_map (list_links s.number) body.outgoing l of in (Contains-from_list_links s.number at.0 l at.2).source_is

      below : (s t : Slot) (a b : Link) → slot_order s t ≡ Less → Contains (slot_links s) a → Contains (slot_links t) b → link_order a b ≡ Less
      below s t a b less first second = below_by_source a b
          (subst (λ (o : ObjId). nat_cmp a.source.0 o.0 ≡ Less) (sym (from t t.body b second)) (subst (λ (o : ObjId). nat_cmp o.0 t.number.0 ≡ Less) (sym (from s s.body a first)) less))
