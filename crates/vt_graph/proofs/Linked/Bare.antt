-- Slots that differ in their ends alone: all of the model but its links is the same.
use Rattle.std.proofs.Common.{◌≡◌, ℕ, List, [], ◌∷◌, ◌++◌, map, filter, refl, sym, ap, subst, ◌∙◌, cond, true, false, Option, Some, None, option_map, option_and_then, unwrap_or}
use Rattle.std.specs.Prelude.{◌==◌, ◌≤◌, IfSome, Contains}
use Rattle.std.specs.List.{filter_map, flat_map}
use Rattle.std.proofs.lemmas.List.Elements.{All-contains, All-nil}
use Rattle.vt_base.specs.declared.numbers.ObjId.{ObjId}
use Rattle.vt_base.specs.declared.numbers.ClassId.{ClassId}
use Rattle.vt_base.specs.declared.numbers.RefId.{RefId}
use Rattle.vt_model.specs.Metamodel.{Metamodel, isa}
use Rattle.vt_facts.specs.Names.{is_distinct}
use Rattle.vt_model.specs.declared.model.Link.{Link}
use Rattle.vt_facts.proofs.MemberLemmas.{Contains-map, All-from_contains, Contains-from_map}
use Rattle.vt_slots.specs.Ends.{ObjectsRise, reference_order, capacity_of}
use Rattle.vt_slots.specs.Slots.{NumbersRise, NamesDiffer, slot_at, body_at, ends_on, ends_at, bare, bare_body}
use Rattle.vt_slots.specs.declared.slot.Side.{Side}
use Rattle.vt_slots.specs.declared.slot.Side.TheVariants.{Outgoing, Incoming}
use Rattle.vt_slots.specs.declared.slot.Body.{Body}
use Rattle.vt_slots.specs.declared.slot.Slot.{Slot}
use Rattle.vt_slots.proofs.PlaceLemmas.{sorted_alike}
use Rattle.vt_slots.proofs.SlotsLemmas.{slot_number}
use Rattle.vt_graph.specs.Room.{KeepsRoom, place_at, class_kept, capacity_at, ends_of}
use Rattle.vt_graph.specs.Inside.Stored.{live_object, gone_if_none, gone_object, body_values, model_of, place_of, places_of}
use Rattle.vt_graph.specs.Inside.Planned.{listing, AreListings}
use Rattle.vt_graph.specs.Inside.Indexed.{IsBodyOf, IsSlot, IsTwoEnded, IsIndexed}
use Rattle.vt_graph.specs.Inside.Ended.{EndsRise, AllEndsRise, AllEndsFit, AllKeepRoom}
use Rattle.vt_facts.proofs.RisingLemmas.{rises-none}
use Rattle.vt_facts.proofs.ChosenLemmas.{filter_map-map, filter_map-agree, flat_map-agree, find-map}
use Rattle.vt_graph.proofs.SlotLemmas.{slot_at_changed, slot_at_stands, ends_at_body, ends_at_none}
use Rattle.vt_graph.proofs.Linked.Stored.{all_links, slot_of_body, ends_of_slot}

-- ---- a word that doesn't see the ends

flat_map-map : {X Y Z : Type 0} (f : X → Y) (g : Y → List Z) (xs : List X) → flat_map g (map f xs) ≡ flat_map (λ x. g (f x)) xs
flat_map-map f g [] = refl
flat_map-map f g (x ∷ xs) = ap (λ ys. g (f x) ++ ys) (flat_map-map f g xs)

-- of a body without its ends the same is said
bare_alike : {Y : Type 0} (f : Body → Y) → ((body : Body) → f (bare_body body) ≡ f body) → (b : Option Body) → option_map f (option_map bare_body b) ≡ option_map f b
bare_alike f same None = refl
bare_alike f same (Some body) = ap Some (same body)

live_bare : (s : Slot) → live_object (bare s) ≡ live_object s
live_bare s = bare_alike (λ (body : Body). record { number = s.number; name = s.name; class = s.class }) (λ body. refl) s.body

gone_bare : (s : Slot) → gone_object (bare s) ≡ gone_object s
gone_bare s = by s.body
  where
    by : (b : Option Body) → gone_if_none (bare s) (option_map bare_body b) ≡ gone_if_none s b
    by None = refl
    by (Some body) = refl

values_bare : (s : Slot) → body_values s.number (option_map bare_body s.body) ≡ body_values s.number s.body
values_bare s = by s.body
  where
    by : (b : Option Body) → body_values s.number (option_map bare_body b) ≡ body_values s.number b
    by None = refl
    by (Some body) = refl

listing_bare : (meta : Metamodel) (c : ClassId) (slots : List Slot) → listing meta (map bare slots) c ≡ listing meta slots c
listing_bare meta c [] = refl
listing_bare meta c (s ∷ slots) = elim (isa meta s.class c) as (λ b. map (λ t. t.number) (cond b (bare s ∷ filter (λ t. isa meta t.class c) (map bare slots)) (filter (λ t. isa meta t.class c) (map bare slots)))
    ≡ map (λ t. t.number) (cond b (s ∷ filter (λ t. isa meta t.class c) slots) (filter (λ t. isa meta t.class c) slots))) [
      | true ↦ ap (λ os. s.number ∷ os) (listing_bare meta c slots)
      | false ↦ listing_bare meta c slots
    ]

numbers_bare : (slots : List Slot) → map slot_number (map bare slots) ≡ map slot_number slots
numbers_bare [] = refl
numbers_bare (s ∷ slots) = ap (λ ns. s.number.0 ∷ ns) (numbers_bare slots)

names_bare : (slots : List Slot) → map (λ s. s.name) (map bare slots) ≡ map (λ s. s.name) slots
names_bare [] = refl
names_bare (s ∷ slots) = ap (λ ns. s.name ∷ ns) (names_bare slots)

-- ---- places

-- the place of an object is that of its slot
pub place_at_slot : (slots : List Slot) (o : ObjId) → place_at (places_of slots) o ≡ option_map place_of (slot_at slots o)
place_at_slot slots o = find-map (λ p. p.object.0 == o.0) place_of slots

pub class_kept_slot : (slots : List Slot) (o : ObjId) → class_kept (places_of slots) o ≡ option_map (λ s. s.class) (slot_at slots o)
class_kept_slot slots o = ap (option_map (λ p. p.class)) (place_at_slot slots o) ∙ by (slot_at slots o)
  where
    by : (f : Option Slot) → option_map (λ p. p.class) (option_map place_of f) ≡ option_map (λ s. s.class) f
    by None = refl
    by (Some s) = refl

-- the room of an object is that of its ends
pub capacity_at_ends : (slots : List Slot) (o : ObjId) (side : Side) (r : RefId) → capacity_at (places_of slots) o side r ≡ capacity_of (ends_at slots o side) r
capacity_at_ends slots o side r = ap (λ f. capacity_of (unwrap_or (option_map (ends_of side) f) []) r) (place_at_slot slots o) ∙ ap (λ ls. capacity_of ls r) (by (slot_at slots o))
  where
    on : (s : Slot) (t : Side) → ends_of t (place_of s) ≡ unwrap_or (option_map (ends_on t) s.body) []
    on s Outgoing = refl
    on s Incoming = refl

    by : (f : Option Slot) → unwrap_or (option_map (ends_of side) (option_map place_of f)) [] ≡ unwrap_or (option_map (ends_on side) (option_and_then (λ (s : Slot). s.body) f)) []
    by None = refl
    by (Some s) = on s side

-- ---- the ends of all objects rise

module _ (meta : Metamodel) (next : ℕ) (slots : List Slot) where
  pub ends_rise : IsIndexed meta next slots → AllEndsRise slots
  ends_rise indexed o side = by (body_at slots o) refl
    where
      none : EndsRise []
      none = record { references = rises-none reference_order; objects = All-nil (λ l. ObjectsRise l.objects) }

      of_body : (c : ClassId) (body : Body) → IsBodyOf meta c body → (t : Side) → EndsRise (ends_on t body)
      of_body c body is Outgoing = record { references = is.outgoing_rise; objects = is.outgoing_objects }
      of_body c body is Incoming = record { references = is.incoming_rise; objects = is.incoming_objects }

      by : (b : Option Body) → body_at slots o ≡ b → EndsRise (ends_at slots o side)
      by None e = subst EndsRise (sym (ends_at_none slots o e side)) none
      by (Some body) e =
          let at = slot_of_body slots o body e in
          let is = All-contains (IsSlot meta next) slots at.0 indexed.each (slot_at_stands slots o at.0 at.1) in
          subst EndsRise (sym (ends_at_body slots o body e side)) (of_body at.0.class body (subst (λ b. IfSome b (IsBodyOf meta at.0.class)) at.2 is.body) side)

module _ (old new : List Slot) (same : map bare new ≡ map bare old) where
  -- ---- the model

  live_same : filter_map live_object new ≡ filter_map live_object old
  live_same = sym (each new) ∙ ap (filter_map live_object) same ∙ each old
    where
      each : (slots : List Slot) → filter_map live_object (map bare slots) ≡ filter_map live_object slots
      each slots = filter_map-map bare live_object slots ∙ filter_map-agree (λ s. live_object (bare s)) live_object slots (λ s there. live_bare s)

  gone_same : filter_map gone_object new ≡ filter_map gone_object old
  gone_same = sym (each new) ∙ ap (filter_map gone_object) same ∙ each old
    where
      each : (slots : List Slot) → filter_map gone_object (map bare slots) ≡ filter_map gone_object slots
      each slots = filter_map-map bare gone_object slots ∙ filter_map-agree (λ s. gone_object (bare s)) gone_object slots (λ s there. gone_bare s)

  values_same : flat_map (λ s. body_values s.number s.body) new ≡ flat_map (λ s. body_values s.number s.body) old
  values_same = sym (each new) ∙ ap (flat_map (λ s. body_values s.number s.body)) same ∙ each old
    where
      each : (slots : List Slot) → flat_map (λ s. body_values s.number s.body) (map bare slots) ≡ flat_map (λ s. body_values s.number s.body) slots
      each slots =
          flat_map-map bare (λ s. body_values s.number s.body) slots
          ∙ flat_map-agree (λ s. body_values s.number (option_map bare_body s.body)) (λ s. body_values s.number s.body) slots (λ s there. values_bare s)

  -- the model with its own links
  pub model_same : (next : ℕ) (links : List Link) → all_links new ≡ links → model_of next new ≡ record (model_of next old) { links = links }
  model_same next links is = λ i. record { next = next; live = live_same i; gone = gone_same i; values = values_same i; links = is i }

  -- ---- places and listings

  slot_same : (o : ObjId) → option_map bare (slot_at new o) ≡ option_map bare (slot_at old o)
  slot_same o = sym (slot_at_changed bare (λ s. refl) new o) ∙ ap (λ slots. slot_at slots o) same ∙ slot_at_changed bare (λ s. refl) old o

  pub class_same : (o : ObjId) → class_kept (places_of new) o ≡ class_kept (places_of old) o
  class_same o =
      class_kept_slot new o ∙ sym (each (slot_at new o)) ∙ ap (option_map (λ (s : Slot). s.class)) (slot_same o)
      ∙ each (slot_at old o) ∙ sym (class_kept_slot old o)
    where
      each : (f : Option Slot) → option_map (λ (s : Slot). s.class) (option_map bare f) ≡ option_map (λ (s : Slot). s.class) f
      each None = refl
      each (Some s) = refl

  pub room_kept : AllKeepRoom old new → KeepsRoom (places_of old) (places_of new)
  room_kept keep = record {
    room = λ o side r. subst (λ n. n ≤ capacity_at (places_of new) o side r) (sym (capacity_at_ends old o side r)) (subst (λ n. capacity_of (ends_at old o side) r ≤ n) (sym (capacity_at_ends new o side r)) (keep o side r));
    classes = λ o c is. class_same o ∙ is;
  }

  pub listings_same : (meta : Metamodel) (listings : List (List ObjId)) → AreListings meta old listings → AreListings meta new listings
  listings_same meta listings are = record {
    many = are.many;
    each = λ c below. are.each c below ∙ ap Some (sym (sym (listing_bare meta c new) ∙ ap (λ slots. listing meta slots c) same ∙ listing_bare meta c old));
  }

  -- ---- what holds of the slots

  pub numbers_rise_same : NumbersRise old → NumbersRise new
  numbers_rise_same rise = sorted_alike slot_number old new (sym (numbers_bare new) ∙ ap (map slot_number) same ∙ numbers_bare old) rise

  names_differ_same : NamesDiffer old → NamesDiffer new
  names_differ_same differ = ap is_distinct (sym (names_bare new) ∙ ap (map (λ s. s.name)) same ∙ names_bare old) ∙ differ

  module _ (meta : Metamodel) (next : ℕ) where
    -- a slot without its ends is one still
    slot_bare : (s : Slot) → IsSlot meta next s → IsSlot meta next (bare s)
    slot_bare s is = record { class = is.class; below = is.below; body = by s.body is.body }
      where
        none : (body : Body) → IsBodyOf meta s.class body → IsBodyOf meta s.class (bare_body body)
        none body of = record {
          places = of.places;
          outgoing_rise = rises-none reference_order;
          outgoing_objects = All-nil (λ l. ObjectsRise l.objects);
          incoming_rise = rises-none reference_order;
          incoming_objects = All-nil (λ l. ObjectsRise l.objects);
        }

        by : (b : Option Body) → IfSome b (IsBodyOf meta s.class) → IfSome (option_map bare_body b) (IsBodyOf meta s.class)
        by None of = tt
        by (Some body) of = none body of

    -- and it is one where its ends rise
    slot_whole : (s : Slot) → IsSlot meta next (bare s) → ((body : Body) → s.body ≡ Some body → (side : Side) → EndsRise (ends_on side body)) → IsSlot meta next s
    slot_whole s is rise = record { class = is.class; below = is.below; body = by s.body refl is.body }
      where
        by : (b : Option Body) → s.body ≡ b → IfSome (option_map bare_body b) (IsBodyOf meta s.class) → IfSome b (IsBodyOf meta s.class)
        by None e of = tt
        by (Some body) e of = record {
          places = of.places;
          outgoing_rise = (rise body e Outgoing).references;
          outgoing_objects = (rise body e Outgoing).objects;
          incoming_rise = (rise body e Incoming).references;
          incoming_objects = (rise body e Incoming).objects;
        }

    pub indexed_same : IsIndexed meta next old → AllEndsRise new → AllEndsFit new → IsTwoEnded new → IsIndexed meta next new
    indexed_same was ends fit two =
        let rise : NumbersRise new = numbers_rise_same was.numbers_rise in
        record {
          next_in_range = was.next_in_range;
          numbers_rise = rise;
          names_differ = names_differ_same was.names_differ;
          each = All-from_contains (IsSlot meta next) new (λ s there. slot_whole s (bare_is s there)
              (λ body e side. subst EndsRise (ends_of_slot new rise ends s body there e side) (ends s.number side)));
          two_ended = two;
          room = fit;
        }
      where
        bare_is : (s : Slot) → Contains new s → IsSlot meta next (bare s)
        bare_is s there =
            let among = subst (λ slots. Contains slots (bare s)) same (Contains-map bare new s there) in
            let from = Contains-from_map bare old (bare s) among in
            subst (IsSlot meta next) from.2 (slot_bare from.0 (All-contains (IsSlot meta next) old from.0 was.each from.1))
