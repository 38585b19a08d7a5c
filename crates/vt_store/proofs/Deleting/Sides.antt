-- The ends of an object on both sides, where each list has just the objects at the other end of its reference's links.
use Rattle.std.proofs.Common.{◌≡◌, List, ◌++◌, refl, sym, subst, ◌∙◌, Bool, true}
use Rattle.std.specs.Prelude.{◌&&◌, ◌==◌, filter, Contains}
use Rattle.std.specs.List.{flat_map}
use Rattle.std.specs.List.Sorted.{IsStrictlySortedBy}
use Rattle.std.specs.declared.cmp.Ordering.TheVariants.{Less}
use Rattle.std.proofs.lemmas.Bool.{and_parts, and_from, eqb-true, eq-eqb}
use Rattle.std.proofs.lemmas.List.Kept.{IsStrictlySortedBy-filter}
use Rattle.vt_base.specs.declared.numbers.ObjId.{ObjId}
use Rattle.vt_base.specs.declared.numbers.RefId.{RefId}
use Rattle.vt_model.specs.Metamodel.{Metamodel}
use Rattle.vt_model.specs.Model.{Model}
use Rattle.vt_model.specs.Linking.{link_order}
use Rattle.vt_model.specs.declared.model.Link.{Link}
use Rattle.vt_facts.proofs.MemberLemmas.{Contains-map, Contains-filter, Contains-from_filter, All-from_contains, Contains-from_map}
use Rattle.vt_model.proofs.Valid.Containment.{same_object}
use Rattle.vt_store.specs.Inside.Levels.{children, leaving, coming, targets_of, sources_of, AreLinksAt}
use Rattle.vt_slots.specs.Ends.{number_order}
use Rattle.vt_store.proofs.Deleting.ListLemmas.{rises-map_there}
use Rattle.vt_store.proofs.Deleting.Ends.{nat_cmp-same, ends_order, objects_in, objects_in-own, AreEnds, links_by, contained, AreLinksAt-ends, children_ends}
use Rattle.vt_graph.proofs.Linked.Ends.{same_reference}

module _ (g : Model) (x : ObjId) where
  -- ---- the links of a reference

  -- the link leaves the object by the reference, or comes to it
  abbrev leaves_by : RefId → Link → Bool
  leaves_by r link = link.source.0 == x.0 && link.reference.0 == r.0

  abbrev comes_by : RefId → Link → Bool
  comes_by r link = link.target.0 == x.0 && link.reference.0 == r.0

  -- such a link is that to its target, or from its source
  leaving_is : (r : RefId) (link : Link) → leaves_by r link ≡ true → leaving x r link.target ≡ link
  leaving_is r link e =
      let parts = and_parts (link.source.0 == x.0) (link.reference.0 == r.0) e in
      let from = same_object link.source x (eqb-true link.source.0 x.0 parts.0) in
      let by = same_reference link.reference r (eqb-true link.reference.0 r.0 parts.1) in
      λ i. record { source = sym from i; reference = sym by i; target = link.target }

  coming_is : (r : RefId) (link : Link) → comes_by r link ≡ true → coming x r link.source ≡ link
  coming_is r link e =
      let parts = and_parts (link.target.0 == x.0) (link.reference.0 == r.0) e in
      let to = same_object link.target x (eqb-true link.target.0 x.0 parts.0) in
      let by = same_reference link.reference r (eqb-true link.reference.0 r.0 parts.1) in
      λ i. record { source = link.source; reference = sym by i; target = sym to i }

  -- what stands among the targets is a link's
  there-targets : (r : RefId) (y : ObjId) → Contains (targets_of g x r) y → Contains g.links (leaving x r y)
  there-targets r y there =
      let by = Contains-from_map (λ link. link.target) (filter (leaves_by r) g.links) y there in
      let was = Contains-from_filter (leaves_by r) g.links by.0 by.1 in
      subst (λ z. Contains g.links (leaving x r z)) by.2 (subst (Contains g.links) (sym (leaving_is r by.0 was.1)) was.0)

  there-sources : (r : RefId) (y : ObjId) → Contains (sources_of g x r) y → Contains g.links (coming x r y)
  there-sources r y there =
      let by = Contains-from_map (λ link. link.source) (filter (comes_by r) g.links) y there in
      let was = Contains-from_filter (comes_by r) g.links by.0 by.1 in
      subst (λ z. Contains g.links (coming x r z)) by.2 (subst (Contains g.links) (sym (coming_is r by.0 was.1)) was.0)

  -- and a link's target stands there
  back-targets : (r : RefId) (y : ObjId) → Contains g.links (leaving x r y) → Contains (targets_of g x r) y
  back-targets r y there = Contains-map (λ link. link.target) (filter (leaves_by r) g.links) (leaving x r y)
      (Contains-filter (leaves_by r) g.links (leaving x r y) there (and_from (x.0 == x.0) (r.0 == r.0) (eq-eqb x.0 x.0 refl) (eq-eqb r.0 r.0 refl)))

  back-sources : (r : RefId) (y : ObjId) → Contains g.links (coming x r y) → Contains (sources_of g x r) y
  back-sources r y there = Contains-map (λ link. link.source) (filter (comes_by r) g.links) (coming x r y)
      (Contains-filter (comes_by r) g.links (coming x r y) there (and_from (x.0 == x.0) (r.0 == r.0) (eq-eqb x.0 x.0 refl) (eq-eqb r.0 r.0 refl)))

  -- the targets rise
  targets-rise : (r : RefId) → IsStrictlySortedBy link_order g.links → IsStrictlySortedBy number_order (targets_of g x r)
  targets-rise r rise = rises-map_there link_order number_order (λ link. link.target) (filter (leaves_by r) g.links) below
      (IsStrictlySortedBy-filter link_order (leaves_by r) g.links rise)
    where
      below : (k l : Link) → Contains (filter (leaves_by r) g.links) k → Contains (filter (leaves_by r) g.links) l → link_order k l ≡ Less → number_order k.target l.target ≡ Less
      below k l one other less =
          let k_is = leaving_is r k (Contains-from_filter (leaves_by r) g.links k one).1 in
          let l_is = leaving_is r l (Contains-from_filter (leaves_by r) g.links l other).1 in
          let turned : link_order (leaving x r k.target) (leaving x r l.target) ≡ Less = subst (λ m. link_order m (leaving x r l.target) ≡ Less) (sym k_is) (subst (λ m. link_order k m ≡ Less) (sym l_is) less) in
          rw (nat_cmp-same x.0 x.0 refl, nat_cmp-same r.0 r.0 refl) at turned

  -- ---- the lists of ends

  module _ {E : Type 0} (reference : E → RefId) (objects : E → List ObjId) where
    -- outgoing lists stand for the links that leave the object
    pub AreEnds-outgoing : (ends : List E) → IsStrictlySortedBy (ends_order reference objects) ends
        → ((r : RefId) → objects_in reference objects ends r ≡ targets_of g x r) → AreEnds reference objects g.links (leaving x) ends
    AreEnds-outgoing ends rise exact = record {
      rise = rise;
      there = λ r y stands. there-targets r y (subst (λ l. Contains l y) (exact r) stands);
      back = λ r y stands. subst (λ l. Contains l y) (sym (exact r)) (back-targets r y stands);
    }

    -- incoming lists for those that come to it
    pub AreEnds-incoming : (ends : List E) → IsStrictlySortedBy (ends_order reference objects) ends
        → ((r : RefId) → objects_in reference objects ends r ≡ sources_of g x r) → AreEnds reference objects g.links (coming x) ends
    AreEnds-incoming ends rise exact = record {
      rise = rise;
      there = λ r y stands. there-sources r y (subst (λ l. Contains l y) (exact r) stands);
      back = λ r y stands. subst (λ l. Contains l y) (sym (exact r)) (back-sources r y stands);
    }

    -- so those of both sides are all its links
    pub AreLinksAt-sides : (outgoing incoming : List E) → IsStrictlySortedBy (ends_order reference objects) outgoing → IsStrictlySortedBy (ends_order reference objects) incoming
        → ((r : RefId) → objects_in reference objects outgoing r ≡ targets_of g x r) → ((r : RefId) → objects_in reference objects incoming r ≡ sources_of g x r)
        → AreLinksAt g x (links_by reference objects (leaving x) outgoing ++ links_by reference objects (coming x) incoming)
    AreLinksAt-sides outgoing incoming rise rise_in out into =
        AreLinksAt-ends reference objects g x outgoing incoming (AreEnds-outgoing outgoing rise out) (AreEnds-incoming incoming rise_in into)

    -- and what it contains are the objects of its outgoing lists of containments
    pub children_outgoing : (meta : Metamodel) (ends : List E) → IsStrictlySortedBy link_order g.links → IsStrictlySortedBy (ends_order reference objects) ends
        → ((r : RefId) → objects_in reference objects ends r ≡ targets_of g x r) → flat_map (contained reference objects meta) ends ≡ children meta g x
    children_outgoing meta ends links_rise rise exact = children_ends reference objects meta g x ends (AreEnds-outgoing ends rise exact)
        (All-from_contains (λ e. IsStrictlySortedBy number_order (objects e)) ends
        (λ e there. subst (IsStrictlySortedBy number_order) (sym (exact (reference e)) ∙ objects_in-own reference objects ends rise e there) (targets-rise (reference e) links_rise)))
        links_rise
