-- The links at an object, read off the lists of its ends: for each reference the objects at the other end.
use Rattle.std.proofs.Common.{◌≡◌, ℕ, List, [], ◌∷◌, ◌++◌, map, refl, sym, ap, ap₂, subst, ◌∙◌, Bool, true, false, inl, inr}
use Rattle.std.specs.Prelude.{◌==◌, filter, find, All, Contains, Option, Some, None, option_map, unwrap_or, if◌then◌else◌}
use Rattle.std.specs.List.{flat_map}
use Rattle.std.specs.List.Sorted.{IsStrictlySortedBy}
use Rattle.std.specs.Cmp.{IsTotalOrder}
use Rattle.std.specs.Ordering.{nat_cmp}
use Rattle.std.specs.declared.cmp.Ordering.{Ordering}
use Rattle.std.specs.declared.cmp.Ordering.TheVariants.{Less, Equal}
use Rattle.std.proofs.lemmas.Bool.{eqb-true, eq-eqb}
use Rattle.std.proofs.lemmas.Cmp.{nat_cmp_total, on_total, tied_itself}
use Rattle.std.proofs.lemmas.List.{map-append}
use Rattle.std.proofs.lemmas.List.Elements.{All-contains, Contains-append_left, Contains-append_right, Contains-append_cases, filter-append}
use Rattle.std.proofs.lemmas.List.Kept.{IsStrictlySortedBy-filter}
use Rattle.vt_base.specs.declared.numbers.ObjId.{ObjId}
use Rattle.vt_base.specs.declared.numbers.RefId.{RefId}
use Rattle.vt_model.specs.Metamodel.{Metamodel}
use Rattle.vt_model.specs.Model.{Model}
use Rattle.vt_model.specs.Linking.{link_order, is_containment}
use Rattle.vt_model.specs.declared.model.Link.{Link}
use Rattle.vt_facts.proofs.MemberLemmas.{Contains-nil, Contains-map, Contains-filter, Contains-from_filter, Contains-find, find-some, Contains-from_map}
use Rattle.vt_model.proofs.Valid.Containment.{same_object}
use Rattle.vt_store.specs.Inside.Levels.{children, leaving, coming, AreLinksAt}
use Rattle.vt_slots.specs.Ends.{number_order}
use Rattle.vt_store.proofs.Deleting.ListLemmas.{rises-map}
use Rattle.vt_facts.proofs.RisingLemmas.{tied_is, same_items}
use Rattle.vt_graph.proofs.Linked.Stored.{link_order_total}
use Rattle.vt_facts.proofs.ChosenLemmas.{Contains-flat_map, Contains-from_flat_map, rises-flat_map, filter-filter}
use Rattle.vt_graph.proofs.Linked.Ends.{same_reference}

-- equal numbers are tied
pub nat_cmp-same : (m n : ℕ) → m ≡ n → nat_cmp m n ≡ Equal
nat_cmp-same m n same = subst (λ k. nat_cmp m k ≡ Equal) same (tied_itself nat_cmp_total m)

-- ---- lists by reference

module _ {E : Type 0} (reference : E → RefId) (objects : E → List ObjId) where
  -- lists by the number of their reference
  abbrev pub ends_order : E → E → Ordering
  ends_order a b = nat_cmp (reference a).0 (reference b).0

  ends_order_total : IsTotalOrder ends_order
  ends_order_total = on_total (λ e. (reference e).0) nat_cmp_total

  -- the objects that stand for a reference
  abbrev pub objects_in : List E → RefId → List ObjId
  objects_in ends r = unwrap_or (option_map objects (find (λ e. (reference e).0 == r.0) ends)) []

  -- they are those of the reference's list
  pub objects_in-own : (ends : List E) → IsStrictlySortedBy ends_order ends → (e : E) → Contains ends e → objects_in ends (reference e) ≡ objects e
  objects_in-own ends rise e there =
      let found = find-some (λ d. (reference d).0 == (reference e).0) ends e there (eq-eqb (reference e).0 (reference e).0 refl) in
      let was = Contains-find (λ d. (reference d).0 == (reference e).0) ends found.0 found.1 in
      let is : found.0 ≡ e = tied_is ends_order ends_order_total ends rise found.0 e was.0 there (nat_cmp-same (reference found.0).0 (reference e).0 (eqb-true (reference found.0).0 (reference e).0 was.1)) in
      ap (λ d. unwrap_or (option_map objects d) []) found.1 ∙ ap objects is

  -- what stands for a reference stands in a list of it
  objects_in-there : (ends : List E) (r : RefId) (y : ObjId) → Contains (objects_in ends r) y → (e : E) × Contains ends e × (reference e ≡ r) × Contains (objects e) y
  objects_in-there ends r y there = by (find (λ e. (reference e).0 == r.0) ends) refl there
    where
      by : (found : Option E) → find (λ e. (reference e).0 == r.0) ends ≡ found → Contains (unwrap_or (option_map objects found) []) y
          → (e : E) × Contains ends e × (reference e ≡ r) × Contains (objects e) y
      by None at there = absurd (Contains-nil y there)
      by (Some e) at there =
          let was = Contains-find (λ d. (reference d).0 == r.0) ends e at in
          (e, was.0, same_reference (reference e) r (eqb-true (reference e).0 r.0 was.1), there)

  -- ---- ends, and the links that they stand for

  -- the lists stand for links, each made of a reference and an object
  pub record AreEnds (links : List Link) (make : RefId → ObjId → Link) (ends : List E) : Type 0 where
    pub rise : IsStrictlySortedBy ends_order ends
    pub there : (r : RefId) (y : ObjId) → Contains (objects_in ends r) y → Contains links (make r y)
    pub back : (r : RefId) (y : ObjId) → Contains links (make r y) → Contains (objects_in ends r) y

  -- the links that lists stand for
  abbrev pub links_by : (RefId → ObjId → Link) → List E → List Link
  links_by make ends = flat_map (λ e. map (make (reference e)) (objects e)) ends

  module _ (links : List Link) (make : RefId → ObjId → Link) (ends : List E) (are : AreEnds links make ends) where
    -- a link that stands is one of them
    pub Contains-links_by : (r : RefId) (y : ObjId) → Contains links (make r y) → Contains (links_by make ends) (make r y)
    Contains-links_by r y stands =
        let by = objects_in-there ends r y (are.back r y stands) in
        Contains-flat_map (λ e. map (make (reference e)) (objects e)) ends by.0 (make r y) by.1
        (subst (λ s. Contains (map (make s) (objects by.0)) (make r y)) (sym by.2) (Contains-map (make r) (objects by.0) y by.3))

    -- and each of them stands
    pub Contains-from_links_by : (link : Link) → Contains (links_by make ends) link → (r : RefId) × (y : ObjId) × (make r y ≡ link) × Contains links link
    Contains-from_links_by link stands =
        let by = Contains-from_flat_map (λ e. map (make (reference e)) (objects e)) ends link stands in
        let of = Contains-from_map (make (reference by.0)) (objects by.0) link by.2 in
        let own = subst (λ l. Contains l of.0) (sym (objects_in-own ends are.rise by.0 by.1)) of.1 in
        (reference by.0, of.0, of.2, subst (Contains links) of.2 (are.there (reference by.0) of.0 own))

  -- ---- the links at an object

  -- each list rises by its objects
  abbrev pub EachRises : List E → Type 0
  EachRises ends = All (λ e. IsStrictlySortedBy number_order (objects e)) ends

  module _ (g : Model) (x : ObjId) where
    -- a link that leaves the object is one of those of its outgoing lists
    Contains-leaving : (outgoing : List E) → AreEnds g.links (leaving x) outgoing → (link : Link) → Contains g.links link → link.source ≡ x → Contains (links_by (leaving x) outgoing) link
    Contains-leaving outgoing out link there from =
        let is : leaving x link.reference link.target ≡ link = λ i. record { source = sym from i; reference = link.reference; target = link.target } in
        subst (Contains (links_by (leaving x) outgoing)) is (Contains-links_by g.links (leaving x) outgoing out link.reference link.target (subst (Contains g.links) (sym is) there))

    -- one that comes to it is one of those of its incoming lists
    Contains-coming : (incoming : List E) → AreEnds g.links (coming x) incoming → (link : Link) → Contains g.links link → link.target ≡ x → Contains (links_by (coming x) incoming) link
    Contains-coming incoming into link there to =
        let is : coming x link.reference link.source ≡ link = λ i. record { source = link.source; reference = link.reference; target = sym to i } in
        subst (Contains (links_by (coming x) incoming)) is (Contains-links_by g.links (coming x) incoming into link.reference link.source (subst (Contains g.links) (sym is) there))

    -- those of both sides are all that lead from it or to it
    pub AreLinksAt-ends : (outgoing incoming : List E) → AreEnds g.links (leaving x) outgoing → AreEnds g.links (coming x) incoming
        → AreLinksAt g x (links_by (leaving x) outgoing ++ links_by (coming x) incoming)
    AreLinksAt-ends outgoing incoming out into = record {
      stand = λ link there. elim (Contains-append_cases (links_by (leaving x) outgoing) (links_by (coming x) incoming) link there) [
        | inl own ↦ (Contains-from_links_by g.links (leaving x) outgoing out link own).3
        | inr own ↦ (Contains-from_links_by g.links (coming x) incoming into link own).3
      ];
      touch = λ link there. elim (Contains-append_cases (links_by (leaving x) outgoing) (links_by (coming x) incoming) link there) [
        | inl own ↦ inl (sym (ap (λ l. l.source) (Contains-from_links_by g.links (leaving x) outgoing out link own).2))
        | inr own ↦ inr (sym (ap (λ l. l.target) (Contains-from_links_by g.links (coming x) incoming into link own).2))
      ];
      leaves = λ link there from. Contains-append_left (links_by (leaving x) outgoing) (links_by (coming x) incoming) link (Contains-leaving outgoing out link there from);
      comes = λ link there to. Contains-append_right (links_by (leaving x) outgoing) (links_by (coming x) incoming) link (Contains-coming incoming into link there to);
    }

    -- ---- what an object contains

    -- links that leave an object by one reference are ordered by their targets
    leaving-below : (r : RefId) (a b : ObjId) → number_order a b ≡ Less → link_order (leaving x r a) (leaving x r b) ≡ Less
    leaving-below r a b below = rw (nat_cmp-same x.0 x.0 refl, nat_cmp-same r.0 r.0 refl) below

    -- by a lower reference they come first
    leaving-first : (r s : RefId) (a b : ObjId) → nat_cmp r.0 s.0 ≡ Less → link_order (leaving x r a) (leaving x s b) ≡ Less
    leaving-first r s a b below = rw (nat_cmp-same x.0 x.0 refl, below) refl

    -- so the links of the outgoing lists come in order
    links_by-rise : (ends : List E) → IsStrictlySortedBy ends_order ends → EachRises ends → IsStrictlySortedBy link_order (links_by (leaving x) ends)
    links_by-rise ends rise each = rises-flat_map ends_order link_order (λ e. map (leaving x (reference e)) (objects e)) ends rise
        (λ e there. rises-map number_order link_order (leaving x (reference e)) (leaving-below (reference e)) (objects e)
        (All-contains (λ d. IsStrictlySortedBy number_order (objects d)) ends e each there))
        (λ d e y z below own other.
        let k = Contains-from_map (leaving x (reference d)) (objects d) y own in
        let l = Contains-from_map (leaving x (reference e)) (objects e) z other in
        subst (λ v. link_order v z ≡ Less) k.2 (subst (λ v. link_order (leaving x (reference d) k.0) v ≡ Less) l.2 (leaving-first (reference d) (reference e) k.0 l.0 below)))

    -- and are all that leave the object
    pub links_by-leaving : (ends : List E) → AreEnds g.links (leaving x) ends → EachRises ends → IsStrictlySortedBy link_order g.links
        → links_by (leaving x) ends ≡ filter (λ link. link.source.0 == x.0) g.links
    links_by-leaving ends are each rise = same_items link_order link_order_total (links_by (leaving x) ends) (filter (λ link. link.source.0 == x.0) g.links)
        (links_by-rise ends are.rise each) (IsStrictlySortedBy-filter link_order (λ link. link.source.0 == x.0) g.links rise)
        (λ link there.
        let by = Contains-from_links_by g.links (leaving x) ends are link there in
        Contains-filter (λ l. l.source.0 == x.0) g.links link by.3 (eq-eqb link.source.0 x.0 (ap (λ l. l.source.0) (sym by.2))))
        (λ link there.
        let was = Contains-from_filter (λ l. l.source.0 == x.0) g.links link there in
        Contains-leaving ends are link was.0 (same_object link.source x (eqb-true link.source.0 x.0 was.1)))

  module _ (meta : Metamodel) where
    -- the objects of a list, where its reference is a containment
    abbrev pub contained : E → List ObjId
    contained e = if is_containment meta (reference e) then objects e else []

    -- of the links of one list all are containments, or none
    contained_one : (x : ObjId) (r : RefId) (b : Bool) → is_containment meta r ≡ b → (ys : List ObjId)
        → (if b then ys else []) ≡ map (λ link. link.target) (filter (λ link. is_containment meta link.reference) (map (leaving x r) ys))
    contained_one x r true is [] = refl
    contained_one x r false is [] = refl
    contained_one x r true is (y ∷ ys) = rw is (ap (λ zs. y ∷ zs) (contained_one x r true is ys))
    contained_one x r false is (y ∷ ys) = rw is (contained_one x r false is ys)

    -- the objects contained are the targets of those links that are containments
    contained_links : (x : ObjId) (ends : List E)
        → flat_map contained ends ≡ map (λ link. link.target) (filter (λ link. is_containment meta link.reference) (links_by (leaving x) ends))
    contained_links x [] = refl
    contained_links x (e ∷ ends) =
        let contains : Link → Bool = λ link. is_containment meta link.reference in
        let first : List Link = map (leaving x (reference e)) (objects e) in
        ap₂ (λ a b. a ++ b) (contained_one x (reference e) (is_containment meta (reference e)) refl (objects e)) (contained_links x ends)
        ∙ sym (ap (map (λ (link : Link). link.target)) (filter-append contains first (links_by (leaving x) ends))
        ∙ map-append (λ (link : Link). link.target) (filter contains first) (filter contains (links_by (leaving x) ends)))

    -- what an object contains, read off its outgoing lists
    pub children_ends : (g : Model) (x : ObjId) (ends : List E) → AreEnds g.links (leaving x) ends → EachRises ends → IsStrictlySortedBy link_order g.links
        → flat_map contained ends ≡ children meta g x
    children_ends g x ends are each rise =
        contained_links x ends
        ∙ ap (λ links. map (λ link. link.target) (filter (λ link. is_containment meta link.reference) links)) (links_by-leaving g x ends are each rise)
        ∙ ap (map (λ link. link.target)) (filter-filter (λ link. is_containment meta link.reference) (λ link. link.source.0 == x.0) g.links)
