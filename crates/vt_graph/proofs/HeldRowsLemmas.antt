-- The rows that a graph answers, by its slots and by its model.
use Rattle.std.proofs.Common.{◌≡◌, ℕ, List, map, length, refl, sym, ap, subst, ◌∙◌}
use Rattle.std.specs.Prelude.{◌<◌, All, slice_get, Option, Some, None, option_map, unwrap_or}
use Rattle.std.proofs.lemmas.Option.{slice_get_within}
use Rattle.vt_base.specs.Rows.{Ascends}
use Rattle.vt_base.specs.declared.numbers.ObjId.{ObjId}
use Rattle.vt_base.specs.declared.numbers.ClassId.{ClassId}
use Rattle.vt_base.specs.declared.numbers.AttrId.{AttrId}
use Rattle.vt_base.specs.declared.numbers.RefId.{RefId}
use Rattle.vt_model.specs.Metamodel.{Metamodel}
use Rattle.vt_model.specs.Base.{class_rows, attribute_rows, reference_rows}
use Rattle.vt_model.specs.Fits.{FitsReference}
use Rattle.vt_model.specs.declared.metamodel.AttrInfo.{AttrInfo}
use Rattle.vt_model.specs.declared.metamodel.RefInfo.{RefInfo}
use Rattle.vt_model.proofs.SearchLemmas.{slice_get-below}
use Rattle.vt_model.proofs.BaseLemmas.{Ascends-class_rows, Ascends-attribute_rows, Ascends-reference_rows}
use Rattle.vt_slots.specs.declared.slot.Slot.{Slot}
use Rattle.vt_graph.specs.Held.{Held}
use Rattle.vt_graph.specs.Inside.Stored.{model_of}
use Rattle.vt_graph.specs.Inside.Planned.{listing, AreListings}
use Rattle.vt_graph.specs.Inside.Indexed.{IsIndexed}
use Rattle.vt_graph.specs.Inside.Ended.{AllEndsRise}
use Rattle.vt_graph.specs.Listing.{rows_of, CanList}
use Rattle.vt_graph.specs.Inside.Rowed.{class_listed, listed, rows_listed}
use Rattle.vt_graph.specs.declared.rows.Listed.{Listed}
use Rattle.vt_graph.specs.declared.rows.Listed.TheVariants.{Class, Attribute, Reference}
use Rattle.vt_graph.proofs.HadLemmas.{ValuesRise, values_rise_each}
use Rattle.vt_graph.proofs.ObjectLemmas.{live_rise}
use Rattle.vt_graph.proofs.ValueLemmas.{slot_values_rise}
use Rattle.vt_graph.proofs.Linked.Stored.{links_rise}
use Rattle.vt_graph.proofs.Linked.Bare.{ends_rise}
use Rattle.vt_graph.proofs.Linked.Held.{held_of}
use Rattle.vt_graph.proofs.RowsLemmas.{numbers_rise_listed, listing_rises, class_rows_are, attribute_rows_are, all_cover, listing_covers}
use Rattle.vt_graph.proofs.LinkRowsLemmas.{reference_rows_are, all_cover_sources, listing_covers_sources}

module _ (meta : Metamodel) (next : ℕ) (slots : List Slot) (held : Held) (is : held_of meta next slots ≡ held) (indexed : IsIndexed meta next slots) where
  values_rise : ValuesRise slots
  values_rise = values_rise_each meta next slots indexed.each

  -- ---- they ascend

  class_rows_ascend : (c : ClassId) → Ascends (class_rows held.meta held.model c)
  class_rows_ascend c = subst (λ (h : Held). Ascends (class_rows h.meta h.model c)) is (Ascends-class_rows meta (model_of next slots) c (live_rise next slots indexed.numbers_rise))

  attribute_rows_ascend : (a : AttrId) → Ascends (attribute_rows held.model a)
  attribute_rows_ascend a = subst (λ (h : Held). Ascends (attribute_rows h.model a)) is (Ascends-attribute_rows (model_of next slots) a (slot_values_rise slots indexed.numbers_rise values_rise))

  reference_rows_ascend : (r : RefId) → Ascends (reference_rows held.model r)
  reference_rows_ascend r = subst (λ (h : Held). Ascends (reference_rows h.model r)) is (Ascends-reference_rows (model_of next slots) r (links_rise slots indexed.numbers_rise (ends_rise meta next slots indexed)))

  pub rows_ascend : (of : Listed) → Ascends (rows_of held.meta held.model of)
  rows_ascend (Class c) = class_rows_ascend c
  rows_ascend (Attribute a) = attribute_rows_ascend a
  rows_ascend (Reference r) = reference_rows_ascend r

  -- ---- what can be listed has a class

  attribute_there : (a : AttrId) → a.0 < length held.meta.attributes → (info : AttrInfo) × (slice_get meta.attributes a.0 ≡ Some info)
  attribute_there a there = slice_get-below meta.attributes a.0 (subst (λ (h : Held). a.0 < length h.meta.attributes) (sym is) there)

  reference_there : (r : RefId) → r.0 < length held.meta.references → (info : RefInfo) × (slice_get meta.references r.0 ≡ Some info)
  reference_there r there = slice_get-below meta.references r.0 (subst (λ (h : Held). r.0 < length h.meta.references) (sym is) there)

  pub class_is_there : (of : Listed) → CanList held.meta held.model of → class_listed meta of ≡ None → ⊥
  class_is_there (Class c) can none = cc
  class_is_there (Attribute a) can none =
      let found = attribute_there a can in
      let some : Some found.0.class ≡ None = sym (ap (option_map (λ (info : AttrInfo). info.class)) found.1) ∙ none in
      cc
  class_is_there (Reference r) can none =
      let found = reference_there r can.0 in
      let some : Some found.0.class ≡ None = sym (ap (option_map (λ (info : RefInfo). info.class)) found.1) ∙ none in
      cc

  -- ---- they are those of the slots

  module _ (listings given : List (List ObjId)) (are : AreListings meta slots listings) (same : given ≡ listings) where
    -- a listing that is there is that of the class
    listing_is : (c : ClassId) (found : List ObjId) → slice_get listings c.0 ≡ Some found → found ≡ listing meta slots c
    listing_is c found at =
        let inside : c.0 < length meta.classes = subst (λ n. c.0 < n) are.many (slice_get_within listings c.0 found at) in
        let some : Some found ≡ Some (listing meta slots c) = sym at ∙ are.each c inside in
        cc

    abbrev all_objects : List ObjId
    all_objects = map (λ (s : Slot). s.number) slots

    -- what is said of all objects and of the listing of a class is said of what is listed
    listed_cases : (P : List ObjId → Type 0) (c : ClassId) → P all_objects → P (listing meta slots c) → P (listed slots given c)
    listed_cases P c all own = subst (λ all. P (listed slots all c)) (sym same) (by (slice_get listings c.0) refl)
      where
        by : (r : Option (List ObjId)) → slice_get listings c.0 ≡ r → P (unwrap_or r all_objects)
        by None at = all
        by (Some found) at = subst P (sym (listing_is c found at)) own

    class_rows_held : (c : ClassId) → c.0 < length held.meta.classes → rows_listed slots (Class c) (listed slots given c) ≡ class_rows held.meta held.model c
    class_rows_held c there =
        let inside : c.0 < length meta.classes = subst (λ (h : Held). c.0 < length h.meta.classes) (sym is) there in
        ap (λ all. rows_listed slots (Class c) (listed slots all c)) same
        ∙ ap (λ found. rows_listed slots (Class c) (unwrap_or found all_objects)) (are.each c inside)
        ∙ class_rows_are meta next slots indexed.numbers_rise c
        ∙ ap (λ (h : Held). class_rows h.meta h.model c) is

    attribute_rows_held : (a : AttrId) (info : AttrInfo) → slice_get meta.attributes a.0 ≡ Some info → rows_listed slots (Attribute a) (listed slots given info.class) ≡ attribute_rows held.model a
    attribute_rows_held a info declared =
        listed_cases (λ objects. rows_listed slots (Attribute a) objects ≡ attribute_rows (model_of next slots) a) info.class
        (attribute_rows_are slots indexed.numbers_rise values_rise a next all_objects
        (numbers_rise_listed slots indexed.numbers_rise) (all_cover slots indexed.numbers_rise values_rise a))
        (attribute_rows_are slots indexed.numbers_rise values_rise a next (listing meta slots info.class)
        (listing_rises slots indexed.numbers_rise meta info.class) (listing_covers meta next slots indexed a info declared))
        ∙ ap (λ (h : Held). attribute_rows h.model a) is

    reference_rows_held : (r : RefId) (info : RefInfo) → slice_get meta.references r.0 ≡ Some info → All (FitsReference held.meta held.model.live) held.model.links
        → rows_listed slots (Reference r) (listed slots given info.class) ≡ reference_rows held.model r
    reference_rows_held r info declared fit =
        listed_cases (λ objects. rows_listed slots (Reference r) objects ≡ reference_rows (model_of next slots) r) info.class
        (reference_rows_are slots indexed.numbers_rise ends r next all_objects
        (numbers_rise_listed slots indexed.numbers_rise) (all_cover_sources slots indexed.numbers_rise ends r))
        (reference_rows_are slots indexed.numbers_rise ends r next (listing meta slots info.class)
        (listing_rises slots indexed.numbers_rise meta info.class) (listing_covers_sources meta next slots indexed.numbers_rise ends r info declared fits))
        ∙ ap (λ (h : Held). reference_rows h.model r) is
      where
        ends : AllEndsRise slots
        ends = ends_rise meta next slots indexed

        fits : All (FitsReference meta (model_of next slots).live) (model_of next slots).links
        fits = subst (λ (h : Held). All (FitsReference h.meta h.model.live) h.model.links) (sym is) fit

    pub rows_held : (of : Listed) (c : ClassId) → class_listed meta of ≡ Some c → CanList held.meta held.model of → rows_listed slots of (listed slots given c) ≡ rows_of held.meta held.model of
    rows_held (Class d) c at can = let own : d ≡ c = cc in subst (λ x. rows_listed slots (Class d) (listed slots given x) ≡ class_rows held.meta held.model d) own (class_rows_held d can)
    rows_held (Attribute a) c at can =
        let found = attribute_there a can in
        let some : Some found.0.class ≡ Some c = sym (ap (option_map (λ (info : AttrInfo). info.class)) found.1) ∙ at in
        let own : found.0.class ≡ c = cc in
        subst (λ x. rows_listed slots (Attribute a) (listed slots given x) ≡ attribute_rows held.model a) own (attribute_rows_held a found.0 found.1)
    rows_held (Reference r) c at can =
        let found = reference_there r can.0 in
        let some : Some found.0.class ≡ Some c = sym (ap (option_map (λ (info : RefInfo). info.class)) found.1) ∙ at in
        let own : found.0.class ≡ c = cc in
        subst (λ x. rows_listed slots (Reference r) (listed slots given x) ≡ reference_rows held.model r) own (reference_rows_held r found.0 found.1 can.1)
