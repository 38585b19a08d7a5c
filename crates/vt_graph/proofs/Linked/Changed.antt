-- A link that is added at both its ends, or dropped from both: the links of the model, and that they stand at both ends.
use Rattle.std.proofs.Common.{◌≡◌, ◌≢◌, List, filter, refl, sym, ap, subst, ◌⊎◌, inl, inr, not, true, eq-eqb}
use Rattle.std.specs.Prelude.{◌==◌, ◌&&◌, Contains}
use Rattle.std.specs.BTreeSet.{insert_key}
use Rattle.std.proofs.lemmas.Bool.{cases_eq, and_parts, and_from, false_from_ne_true, not_from_false}
use Rattle.std.proofs.lemmas.List.Kept.{IsStrictlySortedBy-filter}
use Rattle.vt_base.specs.declared.numbers.ObjId.{ObjId}
use Rattle.vt_base.specs.declared.numbers.RefId.{RefId}
use Rattle.vt_model.specs.Linking.{link_order, is_link}
use Rattle.vt_model.specs.declared.model.Link.{Link}
use Rattle.vt_facts.proofs.MemberLemmas.{Contains-filter, Contains-from_filter, Contains-insert_key_cases, Contains-insert_key_old, Contains-insert_key_new}
use Rattle.vt_facts.proofs.OrderedLemmas.{IsStrictlySortedBy-insert_key}
use Rattle.vt_slots.specs.Ends.{objects_of}
use Rattle.vt_slots.specs.Slots.{NumbersRise, ends_at}
use Rattle.vt_slots.specs.declared.slot.Side.{Side}
use Rattle.vt_slots.specs.declared.slot.Side.TheVariants.{Outgoing, Incoming}
use Rattle.vt_slots.specs.declared.slot.Slot.{Slot}
use Rattle.vt_graph.specs.Asked.{other_of}
use Rattle.vt_graph.specs.Inside.Indexed.{IsTwoEnded}
use Rattle.vt_graph.specs.Inside.Ended.{AllEndsRise, near_of, AddsLink, DropsLink, SameObjects}
use Rattle.vt_facts.proofs.RisingLemmas.{same_items}
use Rattle.vt_graph.proofs.SlotLemmas.{same_object, equal_numbers}
use Rattle.vt_graph.proofs.Linked.Ends.{same_reference, added_cases, added_old, added_new, dropped_cases, dropped_old}
use Rattle.vt_graph.proofs.Linked.Stored.{same_ends, link_order_total, link_order-Equal, all_links, link_listed, listed_link, links_rise}

-- ---- links

-- links that the test finds the same are
pub is_link-same : (a b : Link) → is_link a b ≡ true → a ≡ b
is_link-same a b e =
    let parts = and_parts (a.source.0 == b.source.0 && a.reference.0 == b.reference.0) (a.target.0 == b.target.0) e in
    let both = and_parts (a.source.0 == b.source.0) (a.reference.0 == b.reference.0) parts.0 in
    same_ends a b (same_object a.source b.source (equal_numbers a.source.0 b.source.0 both.0))
    (same_reference a.reference b.reference (equal_numbers a.reference.0 b.reference.0 both.1))
    (same_object a.target b.target (equal_numbers a.target.0 b.target.0 parts.1))

-- a link is the same as itself
pub is_link-itself : (a : Link) → is_link a a ≡ true
is_link-itself a = and_from (a.source.0 == a.source.0 && a.reference.0 == a.reference.0) (a.target.0 == a.target.0)
    (and_from (a.source.0 == a.source.0) (a.reference.0 == a.reference.0) (eq-eqb a.source.0 a.source.0 refl) (eq-eqb a.reference.0 a.reference.0 refl))
    (eq-eqb a.target.0 a.target.0 refl)

-- ---- the ends of a link

-- the place at an end: of this object, on this side, of this reference, the other object
pub record IsEnd (link : Link) (o : ObjId) (side : Side) (r : RefId) (x : ObjId) : Type 0 where
  pub near : o ≡ near_of side link
  pub reference : r ≡ link.reference
  pub far : x ≡ other_of side link

-- a link whose end is that of a link is that link
end_at_source : (link l : Link) → IsEnd link l.source Outgoing l.reference l.target → l ≡ link
end_at_source link l at = same_ends l link at.near at.reference at.far

end_at_target : (link l : Link) → IsEnd link l.target Incoming l.reference l.source → l ≡ link
end_at_target link l at = same_ends l link at.far at.reference at.near

its_source : (link l : Link) → l ≡ link → IsEnd link l.source Outgoing l.reference l.target
its_source link l is = record { near = ap (λ (k : Link). k.source) is; reference = ap (λ (k : Link). k.reference) is; far = ap (λ (k : Link). k.target) is }

its_target : (link l : Link) → l ≡ link → IsEnd link l.target Incoming l.reference l.source
its_target link l is = record { near = ap (λ (k : Link). k.target) is; reference = ap (λ (k : Link). k.reference) is; far = ap (λ (k : Link). k.source) is }

-- an object is this one, or another
pub object_cases : (o p : ObjId) → (o ≡ p) ⊎ (o ≡ p → ⊥)
object_cases o p = by (cases_eq o.0 p.0)
  where
    by : (o.0 ≡ p.0) ⊎ (o.0 ≢ p.0) → (o ≡ p) ⊎ (o ≡ p → ⊥)
    by (inl is) = inl (same_object o p is)
    by (inr apart) = inr (λ e. apart (ap (λ (q : ObjId). q.0) e))

-- the other object stands at the object's ends
abbrev Stands : List Slot → ObjId → Side → RefId → ObjId → Type 0
Stands slots o side r x = Contains (objects_of (ends_at slots o side) r) x

module _ (old new : List Slot) (link : Link) where
  module _ (adds : AddsLink old new link) where
    -- what stands stood before, or is an end of the link
    stands_cases : (o : ObjId) (side : Side) (r : RefId) (x : ObjId) → Stands new o side r x → Stands old o side r x ⊎ IsEnd link o side r x
    stands_cases o side r x there = by (object_cases o (near_of side link))
      where
        by : (o ≡ near_of side link) ⊎ (o ≡ near_of side link → ⊥) → Stands old o side r x ⊎ IsEnd link o side r x
        by (inr apart) = inl (subst (λ ls. Contains (objects_of ls r) x) (adds.others o side apart) there)
        by (inl is) = elim (added_cases (ends_at old (near_of side link) side) (ends_at new (near_of side link) side) link.reference (other_of side link) (adds.ends side) r x
            (subst (λ p. Stands new p side r x) is there)) [
              | inl before ↦ inl (subst (λ p. Stands old p side r x) (sym is) before)
              | inr own ↦ inr (record { near = is; reference = own.0; far = own.1 })
            ]

    stands_still : (o : ObjId) (side : Side) (r : RefId) (x : ObjId) → Stands old o side r x → Stands new o side r x
    stands_still o side r x before = by (object_cases o (near_of side link))
      where
        by : (o ≡ near_of side link) ⊎ (o ≡ near_of side link → ⊥) → Stands new o side r x
        by (inr apart) = subst (λ ls. Contains (objects_of ls r) x) (sym (adds.others o side apart)) before
        by (inl is) = subst (λ p. Stands new p side r x) (sym is)
            (added_old (ends_at old (near_of side link) side) (ends_at new (near_of side link) side) link.reference (other_of side link) (adds.ends side) r x
            (subst (λ p. Stands old p side r x) is before))

    stands_new : (o : ObjId) (side : Side) (r : RefId) (x : ObjId) → IsEnd link o side r x → Stands new o side r x
    stands_new o side r x at =
        subst (λ p. Stands new p side r x) (sym at.near) (subst (λ s. Stands new (near_of side link) side s x) (sym at.reference)
        (subst (λ y. Stands new (near_of side link) side link.reference y) (sym at.far)
        (added_new (ends_at old (near_of side link) side) (ends_at new (near_of side link) side) link.reference (other_of side link) (adds.ends side))))

    pub two_ended_added : IsTwoEnded old → IsTwoEnded new
    two_ended_added two l = (forth, back)
      where
        forth : Stands new l.source Outgoing l.reference l.target → Stands new l.target Incoming l.reference l.source
        forth there = elim (stands_cases l.source Outgoing l.reference l.target there) [
          | inl before ↦ stands_still l.target Incoming l.reference l.source ((two l).0 before)
          | inr at ↦ stands_new l.target Incoming l.reference l.source (its_target link l (end_at_source link l at))
        ]

        back : Stands new l.target Incoming l.reference l.source → Stands new l.source Outgoing l.reference l.target
        back there = elim (stands_cases l.target Incoming l.reference l.source there) [
          | inl before ↦ stands_still l.source Outgoing l.reference l.target ((two l).1 before)
          | inr at ↦ stands_new l.source Outgoing l.reference l.target (its_source link l (end_at_target link l at))
        ]

    module _ (rise_old : NumbersRise old) (ends_old : AllEndsRise old) (rise_new : NumbersRise new) (ends_new : AllEndsRise new) where
      pub links_added : all_links new ≡ insert_key link_order (all_links old) link
      links_added = same_items link_order link_order_total (all_links new) (insert_key link_order (all_links old) link) (links_rise new rise_new ends_new)
          (IsStrictlySortedBy-insert_key link_order link_order_total (all_links old) link (links_rise old rise_old ends_old)) forth back
        where
          forth : (l : Link) → Contains (all_links new) l → Contains (insert_key link_order (all_links old) link) l
          forth l there = elim (stands_cases l.source Outgoing l.reference l.target (link_listed new rise_new ends_new l there)) [
            | inl before ↦ Contains-insert_key_old link_order link (all_links old) l (listed_link old rise_old ends_old l before)
            | inr at ↦ subst (Contains (insert_key link_order (all_links old) link)) (sym (end_at_source link l at)) (Contains-insert_key_new link_order link (λ x e. link_order-Equal link x e) (all_links old))
          ]

          back : (l : Link) → Contains (insert_key link_order (all_links old) link) l → Contains (all_links new) l
          back l there = listed_link new rise_new ends_new l (elim (Contains-insert_key_cases link_order link (all_links old) l there) [
            | inl before ↦ stands_still l.source Outgoing l.reference l.target (link_listed old rise_old ends_old l before)
            | inr is ↦ stands_new l.source Outgoing l.reference l.target (its_source link l (sym is))
          ])

  module _ (drops : DropsLink old new link) where
    -- what stands stood before, and is no end of the link
    left_cases : (o : ObjId) (side : Side) (r : RefId) (x : ObjId) → Stands new o side r x → Stands old o side r x × (IsEnd link o side r x → ⊥)
    left_cases o side r x there = by (object_cases o (near_of side link))
      where
        by : (o ≡ near_of side link) ⊎ (o ≡ near_of side link → ⊥) → Stands old o side r x × (IsEnd link o side r x → ⊥)
        by (inr apart) = (subst (λ ls. Contains (objects_of ls r) x) (drops.others o side apart) there, λ at. apart at.near)
        by (inl is) =
            let was = dropped_cases (ends_at old (near_of side link) side) (ends_at new (near_of side link) side) link.reference (other_of side link) (drops.ends side) r x
            (subst (λ p. Stands new p side r x) is there) in
            (subst (λ p. Stands old p side r x) (sym is) was.0, λ at. was.1 at.reference at.far)

    left_still : (o : ObjId) (side : Side) (r : RefId) (x : ObjId) → Stands old o side r x → (IsEnd link o side r x → ⊥) → Stands new o side r x
    left_still o side r x before other = by (object_cases o (near_of side link))
      where
        by : (o ≡ near_of side link) ⊎ (o ≡ near_of side link → ⊥) → Stands new o side r x
        by (inr apart) = subst (λ ls. Contains (objects_of ls r) x) (sym (drops.others o side apart)) before
        by (inl is) = subst (λ p. Stands new p side r x) (sym is)
            (dropped_old (ends_at old (near_of side link) side) (ends_at new (near_of side link) side) link.reference (other_of side link) (drops.ends side) r x
            (subst (λ p. Stands old p side r x) is before) (λ reference far. other (record { near = is; reference = reference; far = far })))

    pub two_ended_dropped : IsTwoEnded old → IsTwoEnded new
    two_ended_dropped two l = (forth, back)
      where
        forth : Stands new l.source Outgoing l.reference l.target → Stands new l.target Incoming l.reference l.source
        forth there = let was = left_cases l.source Outgoing l.reference l.target there in
            left_still l.target Incoming l.reference l.source ((two l).0 was.0) (λ at. was.1 (its_source link l (end_at_target link l at)))

        back : Stands new l.target Incoming l.reference l.source → Stands new l.source Outgoing l.reference l.target
        back there = let was = left_cases l.target Incoming l.reference l.source there in
            left_still l.source Outgoing l.reference l.target ((two l).1 was.0) (λ at. was.1 (its_target link l (end_at_source link l at)))

    module _ (rise_old : NumbersRise old) (ends_old : AllEndsRise old) (rise_new : NumbersRise new) (ends_new : AllEndsRise new) where
      pub links_dropped : all_links new ≡ filter (λ l. not (is_link link l)) (all_links old)
      links_dropped = same_items link_order link_order_total (all_links new) (filter (λ l. not (is_link link l)) (all_links old)) (links_rise new rise_new ends_new)
          (IsStrictlySortedBy-filter link_order (λ l. not (is_link link l)) (all_links old) (links_rise old rise_old ends_old)) forth back
        where
          forth : (l : Link) → Contains (all_links new) l → Contains (filter (λ k. not (is_link link k)) (all_links old)) l
          forth l there =
              let was = left_cases l.source Outgoing l.reference l.target (link_listed new rise_new ends_new l there) in
              Contains-filter (λ k. not (is_link link k)) (all_links old) l (listed_link old rise_old ends_old l was.0)
              (not_from_false (is_link link l) (false_from_ne_true (is_link link l) (λ e. was.1 (its_source link l (sym (is_link-same link l e))))))

          back : (l : Link) → Contains (filter (λ k. not (is_link link k)) (all_links old)) l → Contains (all_links new) l
          back l there =
              let was = Contains-from_filter (λ k. not (is_link link k)) (all_links old) l there in
              listed_link new rise_new ends_new l (left_still l.source Outgoing l.reference l.target (link_listed old rise_old ends_old l was.0)
              (λ at. let itself : is_link link l ≡ true = subst (λ k. is_link link k ≡ true) (sym (end_at_source link l at)) (is_link-itself link) in
              let other : not (is_link link l) ≡ true = was.1 in cc))

-- ---- where the ends stay, so do the links

module _ (old new : List Slot) (stay : SameObjects old new) where
  stands_before : (o : ObjId) (side : Side) (r : RefId) (x : ObjId) → Stands new o side r x → Stands old o side r x
  stands_before o side r x there = subst (λ os. Contains os x) (stay o side r) there

  stands_after : (o : ObjId) (side : Side) (r : RefId) (x : ObjId) → Stands old o side r x → Stands new o side r x
  stands_after o side r x there = subst (λ os. Contains os x) (sym (stay o side r)) there

  pub two_ended_stay : IsTwoEnded old → IsTwoEnded new
  two_ended_stay two l = (
    λ there. stands_after l.target Incoming l.reference l.source ((two l).0 (stands_before l.source Outgoing l.reference l.target there)),
    λ there. stands_after l.source Outgoing l.reference l.target ((two l).1 (stands_before l.target Incoming l.reference l.source there)),
  )

  module _ (rise_old : NumbersRise old) (ends_old : AllEndsRise old) (rise_new : NumbersRise new) (ends_new : AllEndsRise new) where
    pub links_stay : all_links new ≡ all_links old
    links_stay = same_items link_order link_order_total (all_links new) (all_links old) (links_rise new rise_new ends_new) (links_rise old rise_old ends_old)
        (λ l there. listed_link old rise_old ends_old l (stands_before l.source Outgoing l.reference l.target (link_listed new rise_new ends_new l there)))
        (λ l there. listed_link new rise_new ends_new l (stands_after l.source Outgoing l.reference l.target (link_listed old rise_old ends_old l there)))
