-- The rows of a reference that are read from slots are those of the model.
use Rattle.std.proofs.Common.{◌≡◌, ℕ, List, [], ◌∷◌, map, filter, true, refl, sym, ap, subst, ◌∙◌, eq-eqb}
use Rattle.std.specs.Prelude.{All, Contains, slice_get, ◌==◌, Option, Some, None, option_map, option_and_then, unwrap_or}
use Rattle.std.specs.List.Sorted.{IsStrictlySortedBy}
use Rattle.std.specs.Cmp.{nat_cmp_total}
use Rattle.std.specs.declared.cmp.Ordering.TheVariants.{Less}
use Rattle.std.proofs.lemmas.Cmp.{tied_itself}
use Rattle.std.proofs.lemmas.List.Elements.{All-contains}
use Rattle.vt_base.specs.Order.{tuple_cmp}
use Rattle.vt_base.specs.Inside.OrderLaws.{IsTotalOrder-tuple_cmp}
use Rattle.vt_base.specs.declared.numbers.ObjId.{ObjId}
use Rattle.vt_base.specs.declared.numbers.RefId.{RefId}
use Rattle.vt_base.specs.declared.value.Value.{Value}
use Rattle.vt_base.specs.declared.value.Value.TheVariants.{Obj}
use Rattle.vt_model.specs.Metamodel.{Metamodel, isa}
use Rattle.vt_model.specs.Base.{reference_rows}
use Rattle.vt_model.specs.Fits.{FitsReference}
use Rattle.vt_model.specs.declared.metamodel.RefInfo.{RefInfo}
use Rattle.vt_model.specs.declared.model.Object.{Object}
use Rattle.vt_model.specs.declared.model.Link.{Link}
use Rattle.vt_model.proofs.BaseLemmas.{Ascends-reference_rows}
use Rattle.vt_facts.proofs.MemberLemmas.{Contains-nil, Contains-map, Contains-filter, Contains-from_filter, Contains-from_map}
use Rattle.vt_slots.specs.Ends.{number_order, ObjectsRise, objects_of}
use Rattle.vt_slots.specs.Slots.{NumbersRise, slot_at, body_at, ends_on, ends_at}
use Rattle.vt_slots.specs.declared.slot.Side.TheVariants.{Outgoing}
use Rattle.vt_slots.specs.declared.slot.Body.{Body}
use Rattle.vt_slots.specs.declared.slot.Slot.{Slot}
use Rattle.vt_graph.specs.Inside.Stored.{model_of, live_object}
use Rattle.vt_graph.specs.Inside.Planned.{listing}
use Rattle.vt_graph.specs.Inside.Ended.{AllEndsRise}
use Rattle.vt_graph.specs.Inside.Rowed.{targets_in, target_rows, object_rows, rows_listed}
use Rattle.vt_graph.specs.declared.rows.Listed.TheVariants.{Reference}
use Rattle.vt_facts.proofs.RisingLemmas.{same_items, rises-none, rises-cons, first_below, rest_rises}
use Rattle.vt_facts.proofs.ChosenLemmas.{Contains-flat_map, Contains-from_flat_map, Contains-from_filter_map, rises-flat_map}
use Rattle.vt_graph.proofs.SlotLemmas.{equal_numbers, slot_at_stands, slot_at_number}
use Rattle.vt_graph.proofs.Linked.Ends.{same_reference, objects_of_rise}
use Rattle.vt_graph.proofs.Linked.Stored.{from_to, all_links, links_rise, link_listed, listed_link}
use Rattle.vt_graph.proofs.RowsLemmas.{pair_below}

-- the rows of one object rise with their targets
target_rows_rise : (o : ObjId) (targets : List ObjId) → ObjectsRise targets → IsStrictlySortedBy tuple_cmp (target_rows o targets)
target_rows_rise o [] rise = rises-none tuple_cmp
target_rows_rise o (t ∷ ts) rise = rises-cons tuple_cmp (Obj o ∷ Obj t ∷ []) (target_rows o ts) below (target_rows_rise o ts (rest_rises number_order t ts rise))
  where
    pairs : (u : ObjId) → number_order t u ≡ Less → tuple_cmp (Obj o ∷ Obj t ∷ []) (Obj o ∷ Obj u ∷ []) ≡ Less
    pairs u less = rw (tied_itself nat_cmp_total o.0) (rw less refl)

    below : (row : List Value) → Contains (target_rows o ts) row → tuple_cmp (Obj o ∷ Obj t ∷ []) row ≡ Less
    below row there =
        let at = Contains-from_map (λ target. Obj o ∷ Obj target ∷ []) ts row there in
        subst (λ x. tuple_cmp (Obj o ∷ Obj t ∷ []) x ≡ Less) at.2 (pairs at.0 (first_below number_order t ts rise at.0 at.1))

abbrev row_of_link : Link → List Value
row_of_link link = Obj link.source ∷ Obj link.target ∷ []

module _ (slots : List Slot) (rise : NumbersRise slots) (ends : AllEndsRise slots) (r : RefId) where
  -- the targets of an object stand in its body
  targets_at : (o : ObjId) → targets_in r (body_at slots o) ≡ objects_of (ends_at slots o Outgoing) r
  targets_at o = by (body_at slots o)
    where
      by : (b : Option Body) → targets_in r b ≡ objects_of (unwrap_or (option_map (ends_on Outgoing) b) []) r
      by None = refl
      by (Some body) = refl

  -- a listing with each object that has a target
  abbrev pub CoversSources : List ObjId → Type 0
  CoversSources objects = (o x : ObjId) → Contains (objects_of (ends_at slots o Outgoing) r) x → Contains objects o

  reference_rows_rise : (objects : List ObjId) → ObjectsRise objects → IsStrictlySortedBy tuple_cmp (rows_listed slots (Reference r) objects)
  reference_rows_rise objects up = rises-flat_map number_order tuple_cmp (object_rows slots (Reference r)) objects up
      (λ o there. target_rows_rise o (targets_in r (body_at slots o)) (subst ObjectsRise (sym (targets_at o)) (objects_of_rise (ends_at slots o Outgoing) (ends o Outgoing) r))) below
    where
      below : (o p : ObjId) (x y : List Value) → number_order o p ≡ Less → Contains (object_rows slots (Reference r) o) x → Contains (object_rows slots (Reference r) p) y → tuple_cmp x y ≡ Less
      below o p x y less first second =
          let one = Contains-from_map (λ target. Obj o ∷ Obj target ∷ []) (targets_in r (body_at slots o)) x first in
          let other = Contains-from_map (λ target. Obj p ∷ Obj target ∷ []) (targets_in r (body_at slots p)) y second in
          ap (λ row. tuple_cmp row y) (sym one.2) ∙ ap (tuple_cmp (Obj o ∷ Obj one.0 ∷ [])) (sym other.2) ∙ pair_below o p (Obj one.0) (Obj other.0) less

  pub reference_rows_are : (next : ℕ) (objects : List ObjId) → ObjectsRise objects → CoversSources objects → rows_listed slots (Reference r) objects ≡ reference_rows (model_of next slots) r
  reference_rows_are next objects up covers = same_items tuple_cmp IsTotalOrder-tuple_cmp (rows_listed slots (Reference r) objects) (reference_rows (model_of next slots) r)
      (reference_rows_rise objects up) (Ascends-reference_rows (model_of next slots) r (links_rise slots rise ends)) forth back
    where
      forth : (row : List Value) → Contains (rows_listed slots (Reference r) objects) row → Contains (reference_rows (model_of next slots) r) row
      forth row there =
          let at = Contains-from_flat_map (object_rows slots (Reference r)) objects row there in
          let target = Contains-from_map (λ x. Obj at.0 ∷ Obj x ∷ []) (targets_in r (body_at slots at.0)) row at.2 in
          let listed = subst (λ all. Contains all target.0) (targets_at at.0) target.1 in
          subst (Contains (reference_rows (model_of next slots) r)) target.2
          (Contains-map row_of_link (filter (λ (link : Link). link.reference.0 == r.0) (all_links slots)) (from_to at.0 r target.0)
          (Contains-filter (λ (link : Link). link.reference.0 == r.0) (all_links slots) (from_to at.0 r target.0)
          (listed_link slots rise ends (from_to at.0 r target.0) listed) (eq-eqb r.0 r.0 refl)))

      back : (row : List Value) → Contains (reference_rows (model_of next slots) r) row → Contains (rows_listed slots (Reference r) objects) row
      back row there =
          let at = Contains-from_map row_of_link (filter (λ (link : Link). link.reference.0 == r.0) (all_links slots)) row there in
          let parts = Contains-from_filter (λ (link : Link). link.reference.0 == r.0) (all_links slots) at.0 at.1 in
          let own = same_reference at.0.reference r (equal_numbers at.0.reference.0 r.0 parts.1) in
          let listed : Contains (objects_of (ends_at slots at.0.source Outgoing) r) at.0.target =
          subst (λ s. Contains (objects_of (ends_at slots at.0.source Outgoing) s) at.0.target) own (link_listed slots rise ends at.0 parts.0) in
          let targets : Contains (targets_in r (body_at slots at.0.source)) at.0.target = subst (λ all. Contains all at.0.target) (sym (targets_at at.0.source)) listed in
          Contains-flat_map (object_rows slots (Reference r)) objects at.0.source row (covers at.0.source at.0.target listed)
          (subst (Contains (object_rows slots (Reference r) at.0.source)) at.2
          (Contains-map (λ x. Obj at.0.source ∷ Obj x ∷ []) (targets_in r (body_at slots at.0.source)) at.0.target targets))

  -- an object with a target has a slot
  source_slot : (o : ObjId) (x : ObjId) → Contains (objects_of (ends_at slots o Outgoing) r) x → (s : Slot) × Contains slots s × (s.number ≡ o)
  source_slot o x there = by (slot_at slots o) refl there
    where
      by : (f : Option Slot) → slot_at slots o ≡ f → Contains (objects_of (unwrap_or (option_map (ends_on Outgoing) (option_and_then (λ (s : Slot). s.body) f)) []) r) x
          → (s : Slot) × Contains slots s × (s.number ≡ o)
      by None found none = absurd (Contains-nil x none)
      by (Some s) found of = (s, slot_at_stands slots o s found, slot_at_number slots o s found)

  -- all objects cover each reference
  pub all_cover_sources : CoversSources (map (λ (s : Slot). s.number) slots)
  all_cover_sources o x there =
      let s = source_slot o x there in
      subst (Contains (map (λ (t : Slot). t.number) slots)) s.2 (Contains-map (λ (t : Slot). t.number) slots s.0 s.1)

-- the slot of a live object
slot_of_live : (s : Slot) (b : Option Body) (o : Object) → option_map (λ (body : Body). record { number = s.number; name = s.name; class = s.class }) b ≡ Some o → (s.number ≡ o.number) × (s.class ≡ o.class)
slot_of_live s None o e = cc
slot_of_live s (Some body) o e = (cc, cc)

-- where links fit, the listing of the class that declares a reference covers it
pub listing_covers_sources : (meta : Metamodel) (next : ℕ) (slots : List Slot) (rise : NumbersRise slots) (ends : AllEndsRise slots) (r : RefId) (info : RefInfo)
    → slice_get meta.references r.0 ≡ Some info → All (FitsReference meta (model_of next slots).live) (model_of next slots).links
    → CoversSources slots rise ends r (listing meta slots info.class)
listing_covers_sources meta next slots rise ends r info declared fit o x there =
    let fits = All-contains (FitsReference meta (model_of next slots).live) (model_of next slots).links (from_to o r x) fit (listed_link slots rise ends (from_to o r x) there) in
    let same : Some fits.info ≡ Some info = sym fits.declared ∙ declared in
    let source = fits.source in
    let found = Contains-from_filter_map live_object slots (record { number = o; name = source.is_live.name; class = source.own }) source.is_live.there in
    let parts = slot_of_live found.0 found.0.body (record { number = o; name = source.is_live.name; class = source.own }) found.2 in
    let has : isa meta found.0.class info.class ≡ true = cc (source.below, parts.1, same) in
    subst (Contains (listing meta slots info.class)) parts.0
    (Contains-map (λ (s : Slot). s.number) (filter (λ (s : Slot). isa meta s.class info.class) slots) found.0
    (Contains-filter (λ (s : Slot). isa meta s.class info.class) slots found.0 found.1 has))
