-- The links at an object: what is listed at its ends stands, and what stands is listed there.
use Rattle.std.proofs.Common.{◌≡◌, ℕ, zero, suc, ◌<◌, Ok, Err, List, [], ◌∷◌, map, refl, sym, ap, ap₂, subst, ◌∙◌, Bool, true, false, cond, inl, inr, Option, Some, None, Result, length, arith}
use Rattle.std.specs.Prelude.{◌==◌, ◌&&◌, ◌||◌, filter, find, Contains, option_map, unwrap_or}
use Rattle.std.specs.List.{AllByRecursion, list_any}
use Rattle.std.specs.List.Sorted.{IsStrictlySortedBy, IsSearchInRange, IsBinarySearchResult}
use Rattle.std.specs.Result.{is_ok}
use Rattle.std.specs.Ordering.{nat_cmp}
use Rattle.std.specs.declared.cmp.Ordering.TheVariants.{Equal}
use Rattle.std.proofs.lemmas.Bool.{and_parts, and_from, eqb-true, eq-eqb, ne_eqb, cases_eq}
use Rattle.std.proofs.lemmas.Cmp.{on_total, nat_cmp_total, tied_itself}
use Rattle.vt_base.specs.declared.numbers.ObjId.{ObjId}
use Rattle.vt_base.specs.declared.numbers.RefId.{RefId}
use Rattle.vt_model.specs.Metamodel.{Metamodel}
use Rattle.vt_model.specs.Model.{Model}
use Rattle.vt_model.specs.Linking.{link_back, is_link, stands}
use Rattle.vt_model.specs.declared.model.Link.{Link}
use Rattle.vt_facts.proofs.MemberLemmas.{Contains-head, Contains-behind, Contains-nil, Contains-cons_cases, Contains-filter, Contains-from_filter, Contains-map, Contains-find, find-some, Contains-from_map}
use Rattle.vt_model.proofs.Valid.Dropped.{Comes}
use Rattle.vt_slots.specs.Inside.Place.{StandsAt, GoesAt, IsPlace}
use Rattle.vt_slots.proofs.PlaceLemmas.{placed}
use Rattle.vt_slots.proofs.EndsLemmas.{object_number}
use Rattle.vt_store.specs.Inside.Displaced.{targets_of, sources_of, beside, with_opposite}
use Rattle.vt_facts.proofs.RisingLemmas.{tied_is}
use Rattle.vt_graph.proofs.Linked.Stored.{same_ends}
use Rattle.vt_graph.proofs.SlotLemmas.{same_object}
use Rattle.vt_graph.proofs.Linked.Ends.{same_reference}

-- a link of its three parts
abbrev pub from_to : ObjId → RefId → ObjId → Link
from_to source r target = record { source = source; reference = r; target = target }

-- ---- a link and its opposite

module _ (meta : Metamodel) (link : Link) where
  pub Contains-with_opposite : (x : Link) → Comes meta link x → Contains (with_opposite meta link) x
  Contains-with_opposite x (inl is) = subst (Contains (with_opposite meta link)) is (here (link_back meta link))
    where
      here : (b : Option Link) → Contains (beside link b) link
      here None = Contains-head link []
      here (Some back) = Contains-head link (back ∷ [])
  Contains-with_opposite x (inr at) = subst (λ b. Contains (beside link b) x) (sym at) (Contains-behind link x (x ∷ []) (Contains-head x []))

  pub Contains-from_with_opposite : (x : Link) → Contains (with_opposite meta link) x → Comes meta link x
  Contains-from_with_opposite x there = by (link_back meta link) refl there
    where
      by : (b : Option Link) → link_back meta link ≡ b → Contains (beside link b) x → Comes meta link x
      by None at there = elim (Contains-cons_cases link x [] there) [ inl is ↦ inl is | inr none ↦ absurd (Contains-nil x none) ]
      by (Some back) at there = elim (Contains-cons_cases link x (back ∷ []) there) [
        | inl is ↦ inl is
        | inr later ↦ (elim (Contains-cons_cases back x [] later) [ inl is ↦ inr (at ∙ ap Some is) | inr none ↦ absurd (Contains-nil x none) ])
      ]

-- ---- the other ends

-- the link is from the object by the reference
abbrev pub goes_out : ObjId → RefId → Link → Bool
goes_out o r l = l.source.0 == o.0 && l.reference.0 == r.0

-- or to it
abbrev pub comes_in : ObjId → RefId → Link → Bool
comes_in o r l = l.target.0 == o.0 && l.reference.0 == r.0

module _ (g : Model) (o : ObjId) (r : RefId) where
  -- a target that is listed is one of a link that stands
  pub target_stands : (t : ObjId) → Contains (targets_of g o r) t → Contains g.links (from_to o r t)
  target_stands t there =
      let at = Contains-from_map (λ l. l.target) (filter (goes_out o r) g.links) t there in
      let was = Contains-from_filter (goes_out o r) g.links at.0 at.1 in
      let parts = and_parts (at.0.source.0 == o.0) (at.0.reference.0 == r.0) was.1 in
      subst (Contains g.links) (same_ends at.0 (from_to o r t) (same_object at.0.source o (eqb-true at.0.source.0 o.0 parts.0))
      (same_reference at.0.reference r (eqb-true at.0.reference.0 r.0 parts.1)) at.2) was.0

  -- and the target of a link that stands is listed
  pub target_listed : (l : Link) → Contains g.links l → l.source ≡ o → l.reference ≡ r → Contains (targets_of g o r) l.target
  target_listed l there source reference = Contains-map (λ l. l.target) (filter (goes_out o r) g.links) l (Contains-filter (goes_out o r) g.links l there
      (and_from (l.source.0 == o.0) (l.reference.0 == r.0) (eq-eqb l.source.0 o.0 (ap (λ x. x.0) source)) (eq-eqb l.reference.0 r.0 (ap (λ x. x.0) reference))))

  -- a source that is listed is one of a link that stands
  pub source_stands : (s : ObjId) → Contains (sources_of g o r) s → Contains g.links (from_to s r o)
  source_stands s there =
      let at = Contains-from_map (λ l. l.source) (filter (comes_in o r) g.links) s there in
      let was = Contains-from_filter (comes_in o r) g.links at.0 at.1 in
      let parts = and_parts (at.0.target.0 == o.0) (at.0.reference.0 == r.0) was.1 in
      subst (Contains g.links) (same_ends at.0 (from_to s r o) at.2 (same_reference at.0.reference r (eqb-true at.0.reference.0 r.0 parts.1))
      (same_object at.0.target o (eqb-true at.0.target.0 o.0 parts.0))) was.0

  -- and the source of a link that stands is listed
  pub source_listed : (l : Link) → Contains g.links l → l.target ≡ o → l.reference ≡ r → Contains (sources_of g o r) l.source
  source_listed l there target reference = Contains-map (λ l. l.source) (filter (comes_in o r) g.links) l (Contains-filter (comes_in o r) g.links l there
      (and_from (l.target.0 == o.0) (l.reference.0 == r.0) (eq-eqb l.target.0 o.0 (ap (λ x. x.0) target)) (eq-eqb l.reference.0 r.0 (ap (λ x. x.0) reference))))

module _ (g : Model) (link : Link) where
  -- the targets among some links
  abbrev targets_among : List Link → List ObjId
  targets_among links = map (λ l. l.target) (filter (goes_out link.source link.reference) links)

  -- the target is one
  abbrev is_listed : List ObjId → Bool
  is_listed targets = list_any (λ t. link.target.0 == t.0) targets

  -- a link stands where its target is listed at its source
  pub stands_targets_of : stands g link ≡ is_listed (targets_of g link.source link.reference)
  stands_targets_of = by g.links
    where
      turn : (n m : ℕ) → (n == m) ≡ (m == n)
      turn n m = elim (cases_eq n m) [ inl e ↦ eq-eqb n m e ∙ sym (eq-eqb m n (sym e)) | inr d ↦ ne_eqb n m d ∙ sym (ne_eqb m n (λ e. d (sym e))) ]

      by : (links : List Link) → list_any (is_link link) links ≡ is_listed (targets_among links)
      by [] = refl
      by (l ∷ ls) =
          ap₂ (λ a b. (a && b && link.target.0 == l.target.0) || list_any (is_link link) ls) (turn link.source.0 l.source.0) (turn link.reference.0 l.reference.0)
          ∙ elim (goes_out link.source link.reference l) as (λ b. ((b && link.target.0 == l.target.0) || list_any (is_link link) ls)
          ≡ is_listed (map (λ l. l.target) (cond b (l ∷ filter (goes_out link.source link.reference) ls) (filter (goes_out link.source link.reference) ls)))) [
            | true ↦ ap (λ b. link.target.0 == l.target.0 || b) (by ls)
            | false ↦ by ls
          ]

-- ---- a search among objects

module _ (k : ℕ) where
  -- none is the one whose number is below those of all
  any_above : (xs : List ObjId) → AllByRecursion (λ y. k < y.0) xs → list_any (λ t. k == t.0) xs ≡ false
  any_above [] h = refl
  any_above (x ∷ xs) h = ap (λ b. b || list_any (λ t. k == t.0) xs) (ne_eqb k x.0 (λ (e : k ≡ x.0). let no : ⊥ = omega (arith, h.0, e) in no)) ∙ any_above xs h.1

  -- one is where a search finds it, and none where it finds where one would go
  any_stands : (xs : List ObjId) (i : ℕ) → StandsAt object_number k xs i → list_any (λ t. k == t.0) xs ≡ true
  any_stands [] i h = absurd h
  any_stands (x ∷ xs) zero h = ap (λ b. b || list_any (λ t. k == t.0) xs) (eq-eqb k x.0 (sym h.0))
  any_stands (x ∷ xs) (suc i) h = ap (λ b. b || list_any (λ t. k == t.0) xs) (ne_eqb k x.0 (λ (e : k ≡ x.0). let no : ⊥ = omega (arith, h.0, e) in no)) ∙ any_stands xs i h.1

  any_goes : (xs : List ObjId) (i : ℕ) → GoesAt object_number k xs i → list_any (λ t. k == t.0) xs ≡ false
  any_goes [] i h = refl
  any_goes (x ∷ xs) zero h = any_above (x ∷ xs) h
  any_goes (x ∷ xs) (suc i) h = ap (λ b. b || list_any (λ t. k == t.0) xs) (ne_eqb k x.0 (λ (e : k ≡ x.0). let no : ⊥ = omega (arith, h.0, e) in no)) ∙ any_goes xs i h.1

-- a binary search of objects that rise finds one exactly where it is listed
pub listed_searched : (objects : List ObjId) (o : ObjId) (r : Result ℕ ℕ) → IsStrictlySortedBy (λ a b. nat_cmp a.0 b.0) objects → IsSearchInRange r (length objects)
    → IsBinarySearchResult (λ t. nat_cmp t.0 o.0) objects r → is_ok r ≡ list_any (λ t. o.0 == t.0) objects
listed_searched objects o r rise bound found = by r (placed object_number objects o.0 r rise bound found)
  where
    by : (r : Result ℕ ℕ) → IsPlace object_number o.0 objects r → is_ok r ≡ list_any (λ t. o.0 == t.0) objects
    by (Ok i) at = sym (any_stands o.0 objects i at)
    by (Err i) at = sym (any_goes o.0 objects i at)

-- ---- the ends that lists have, one for each reference

module _ {E : Type 0} (reference : E → RefId) (objects : E → List ObjId) where
  -- lists of the objects that links lead from to an object
  pub record AreSources (g : Model) (o : ObjId) (lists : List E) : Type 0 where
    pub rise : IsStrictlySortedBy (λ a b. nat_cmp (reference a).0 (reference b).0) lists
    pub objects_are : (r : RefId) → unwrap_or (option_map objects (find (λ e. (reference e).0 == r.0) lists)) [] ≡ sources_of g o r

  module _ (g : Model) (o : ObjId) (lists : List E) (are : AreSources g o lists) where
    -- equal numbers are tied
    tied : (n m : ℕ) → n ≡ m → nat_cmp n m ≡ Equal
    tied n m same = ap (nat_cmp n) (sym same) ∙ tied_itself nat_cmp_total n

    -- the list of a reference
    abbrev is_of : RefId → E → Bool
    is_of r e = (reference e).0 == r.0

    -- each list has the sources by its reference
    pub objects-sources : (e : E) → Contains lists e → objects e ≡ sources_of g o (reference e)
    objects-sources e there =
        let found = find-some (is_of (reference e)) lists e there (eq-eqb (reference e).0 (reference e).0 refl) in
        let at = Contains-find (is_of (reference e)) lists found.0 found.1 in
        let is : found.0 ≡ e = tied_is (λ a b. nat_cmp (reference a).0 (reference b).0) (on_total (λ a. (reference a).0) nat_cmp_total) lists are.rise found.0 e at.0 there (tied (reference found.0).0 (reference e).0 (eqb-true (reference found.0).0 (reference e).0 at.1)) in
        sym (ap (λ f. unwrap_or (option_map objects f) []) (found.1 ∙ ap Some is)) ∙ are.objects_are (reference e)

    -- so what it lists is the source of a link that stands
    pub listed_stands : (e : E) (s : ObjId) → Contains lists e → Contains (objects e) s → Contains g.links (from_to s (reference e) o)
    listed_stands e s there of = source_stands g o (reference e) s (subst (λ os. Contains os s) (objects-sources e there) of)

    -- and the source of a link that stands is in a list
    pub stands_listed : (l : Link) → Contains g.links l → l.target ≡ o → (e : E) × Contains lists e × (reference e ≡ l.reference) × Contains (objects e) l.source
    stands_listed l there target =
        by (find (is_of l.reference) lists) refl (subst (λ os. Contains os l.source) (sym (are.objects_are l.reference)) (source_listed g o l.reference l there target refl))
      where
        by : (f : Option E) → find (is_of l.reference) lists ≡ f → Contains (unwrap_or (option_map objects f) []) l.source
            → (e : E) × Contains lists e × (reference e ≡ l.reference) × Contains (objects e) l.source
        by None at of = absurd (Contains-nil l.source of)
        by (Some e) at of =
            let was = Contains-find (is_of l.reference) lists e at in
            (e, was.0, same_reference (reference e) l.reference (eqb-true (reference e).0 l.reference.0 was.1), of)
