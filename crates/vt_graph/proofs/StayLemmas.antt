-- What stays as it is where a value is put: objects, links, places, and what holds of the slots.
use Rattle.std.proofs.Common.{◌≡◌, ◌↔◌, ℕ, ◌≤◌, length, List, [], ◌∷◌, map, filter, refl, sym, ap, subst, ◌∙◌, cond, Bool, true, false}
use Rattle.std.specs.Prelude.{Contains, All, IfSome, IsSomeAnd, ◌==◌, not, Option, Some, None, option_map, option_and_then}
use Rattle.std.specs.BTreeSet.{insert_key}
use Rattle.std.specs.List.{filter_map, flat_map}
use Rattle.std.proofs.lemmas.List.Elements.{All-map, All-weaker}
use Rattle.std.proofs.lemmas.List.Folds.{flat_map-map}
use Rattle.vt_base.specs.declared.numbers.ObjId.{ObjId}
use Rattle.vt_base.specs.declared.numbers.ClassId.{ClassId}
use Rattle.vt_base.specs.declared.numbers.AttrId.{AttrId}
use Rattle.vt_base.specs.declared.value.Value.{Value}
use Rattle.vt_model.specs.Metamodel.{Metamodel, isa}
use Rattle.vt_facts.specs.Names.{is_distinct}
use Rattle.vt_model.specs.Assigning.{value_order, is_value_of, with_default_value}
use Rattle.vt_model.specs.declared.model.AttributeValue.{AttributeValue}
use Rattle.vt_slots.specs.Values.{HasPlace, put_in}
use Rattle.vt_slots.specs.Ends.{objects_of}
use Rattle.vt_slots.specs.Slots.{slot_at, put_value_in, with_value_at, with_slot_value, ends_at}
use Rattle.vt_slots.specs.declared.slot.Side.TheVariants.{Outgoing, Incoming}
use Rattle.vt_slots.specs.declared.values.Held.{Held}
use Rattle.vt_slots.specs.declared.slot.Body.{Body}
use Rattle.vt_slots.specs.declared.slot.Slot.{Slot}
use Rattle.vt_graph.specs.Having.{HasAttribute}
use Rattle.vt_graph.specs.Inside.Stored.{model_of, live_object, gone_if_none, gone_object, body_links, place_of, places_of}
use Rattle.vt_graph.specs.Inside.Planned.{attributes_had, listing, AreListings}
use Rattle.vt_graph.specs.Inside.Indexed.{IsBodyOf, IsSlot, IsTwoEnded, IsIndexed}
use Rattle.vt_facts.proofs.ChosenLemmas.{filter_map-map, filter_map-agree, flat_map-agree}
use Rattle.vt_graph.proofs.SlotLemmas.{slot_at_stands, LeavesNumber, put_value_leaves, numbers_rise_with_value, ends_at_with_value}
use Rattle.vt_graph.proofs.HadLemmas.{body_fits, values_rise_each, had_there, place_there}
use Rattle.vt_graph.proofs.ObjectLemmas.{class_at_slot}
use Rattle.vt_graph.proofs.ValueLemmas.{slot_values}
use Rattle.vt_graph.proofs.PutLemmas.{HasPlaceAt, put_in_attribute, values_without, values_with}

-- ---- any change of each slot

-- a word that a change leaves stays the same over the list
pub map-changed : {X Y : Type 0} (f : X → X) (g : X → Y) (xs : List X) → ((x : X) → g (f x) ≡ g x) → map g (map f xs) ≡ map g xs
map-changed f g [] same = refl
map-changed f g (x ∷ xs) same = rw (same x) (ap (λ ys. g x ∷ ys) (map-changed f g xs same))

module _ (f : Slot → Slot) (numbers : LeavesNumber f) (classes : (s : Slot) → (f s).class ≡ s.class) where
  -- where numbers and classes stay, so do listings
  pub listing-changed : (meta : Metamodel) (slots : List Slot) (c : ClassId) → listing meta (map f slots) c ≡ listing meta slots c
  listing-changed meta [] c = refl
  listing-changed meta (s ∷ slots) c =
      ap (λ d. map (λ (t : Slot). t.number) (cond (isa meta d c) (f s ∷ filter (λ t. isa meta t.class c) (map f slots)) (filter (λ t. isa meta t.class c) (map f slots)))) (classes s)
      ∙ by (listing-changed meta slots c) (isa meta s.class c)
    where
      by : listing meta (map f slots) c ≡ listing meta slots c → (b : Bool) → map (λ (t : Slot). t.number) (cond b (f s ∷ filter (λ t. isa meta t.class c) (map f slots)) (filter (λ t. isa meta t.class c) (map f slots)))
          ≡ map (λ (t : Slot). t.number) (cond b (s ∷ filter (λ t. isa meta t.class c) slots) (filter (λ t. isa meta t.class c) slots))
      by rest true = rw (numbers s) (ap (λ ns. s.number ∷ ns) rest)
      by rest false = rest

  pub AreListings-changed : (meta : Metamodel) (slots : List Slot) (listings : List (List ObjId)) → AreListings meta slots listings → AreListings meta (map f slots) listings
  AreListings-changed meta slots listings are = record { many = are.many; each = λ c there. are.each c there ∙ ap Some (sym (listing-changed meta slots c)) }

-- ---- a value that is put

module _ (o : ObjId) (a : AttrId) (value : Option Value) where
  -- the object's own slot
  abbrev changed : Slot → Slot
  changed s = record s { body = option_map (with_value_at a value) s.body }

  -- what holds of the changed slot and of the old one holds of what stands there
  by_choice : (P : Slot → Type 0) (s : Slot) → P s → P (changed s) → P (put_value_in o a value s)
  by_choice P s old new = elim (s.number.0 == o.0) as (λ b. P (cond b (changed s) s)) [
    | true ↦ new
    | false ↦ old
  ]

  -- a word of the body that the change leaves
  body_word : {Y : Type 0} (g : Option Body → Y) → ((body : Body) → g (Some (with_value_at a value body)) ≡ g (Some body)) → (b : Option Body) → g (option_map (with_value_at a value) b) ≡ g b
  body_word g same None = refl
  body_word g same (Some body) = same body

  pub put_leaves_class : (s : Slot) → (put_value_in o a value s).class ≡ s.class
  put_leaves_class s = by_choice (λ t. t.class ≡ s.class) s refl refl

  pub put_leaves_name : (s : Slot) → (put_value_in o a value s).name ≡ s.name
  put_leaves_name s = by_choice (λ t. t.name ≡ s.name) s refl refl

  live_same : (s : Slot) → live_object (put_value_in o a value s) ≡ live_object s
  live_same s = by_choice (λ t. live_object t ≡ live_object s) s refl (body_word (λ b. option_map (λ (body : Body). record { number = s.number; name = s.name; class = s.class }) b) (λ body. refl) s.body)

  gone_same : (s : Slot) → gone_object (put_value_in o a value s) ≡ gone_object s
  gone_same s = by_choice (λ t. gone_object t ≡ gone_object s) s refl (body_word (λ b. gone_if_none s b) (λ body. refl) s.body)

  links_same : (s : Slot) → body_links (put_value_in o a value s).number (put_value_in o a value s).body ≡ body_links s.number s.body
  links_same s = by_choice (λ t. body_links t.number t.body ≡ body_links s.number s.body) s refl (body_word (body_links s.number) (λ body. refl) s.body)

  place_same : (s : Slot) → place_of (put_value_in o a value s) ≡ place_of s
  place_same s = by_choice (λ t. place_of t ≡ place_of s) s refl
      (body_word (λ b. place_of (record s { body = b })) (λ body. refl) s.body)

  -- the places of a body are the class's as before
  body_same : (meta : Metamodel) (c : ClassId) (body : Body) → IsBodyOf meta c body → IsBodyOf meta c (with_value_at a value body)
  body_same meta c body is = record {
    places = map-changed (put_in a value) (λ (h : Held). h.attribute) body.values (put_in_attribute a value) ∙ is.places;
    outgoing_rise = is.outgoing_rise;
    outgoing_objects = is.outgoing_objects;
    incoming_rise = is.incoming_rise;
    incoming_objects = is.incoming_objects;
  }

  slot_same : (meta : Metamodel) (next : ℕ) (s : Slot) → IsSlot meta next s → IsSlot meta next (put_value_in o a value s)
  slot_same meta next s is = by_choice (IsSlot meta next) s is (record { class = is.class; below = is.below; body = by s.body is.body })
    where
      by : (b : Option Body) → IfSome b (IsBodyOf meta s.class) → IfSome (option_map (with_value_at a value) b) (IsBodyOf meta s.class)
      by None fits = fits
      by (Some body) fits = body_same meta s.class body fits

  module _ (slots : List Slot) where
    abbrev after : List Slot
    after = with_slot_value slots o a value

    -- ---- the lists of the model

    pub live_stays : filter_map live_object after ≡ filter_map live_object slots
    live_stays = filter_map-map (put_value_in o a value) live_object slots ∙ filter_map-agree (λ s. live_object (put_value_in o a value s)) live_object slots (λ s there. live_same s)

    pub gone_stays : filter_map gone_object after ≡ filter_map gone_object slots
    gone_stays = filter_map-map (put_value_in o a value) gone_object slots ∙ filter_map-agree (λ s. gone_object (put_value_in o a value s)) gone_object slots (λ s there. gone_same s)

    pub links_stay : flat_map (λ (s : Slot). body_links s.number s.body) after ≡ flat_map (λ (s : Slot). body_links s.number s.body) slots
    links_stay = flat_map-map (λ (s : Slot). body_links s.number s.body) (put_value_in o a value) slots
        ∙ flat_map-agree (λ s. body_links (put_value_in o a value s).number (put_value_in o a value s).body) (λ s. body_links s.number s.body) slots (λ s there. links_same s)

    pub places_stay : places_of after ≡ places_of slots
    places_stay = map-changed (put_value_in o a value) place_of slots place_same

    -- ---- what holds of the slots

    two_ended_stays : IsTwoEnded slots → IsTwoEnded after
    two_ended_stays ended link =
        subst (λ ends. Contains (objects_of ends link.reference) link.target ↔ Contains (objects_of (ends_at after link.target Incoming) link.reference) link.source)
        (sym (ends_at_with_value o a value slots link.source Outgoing))
        (subst (λ ends. Contains (objects_of (ends_at slots link.source Outgoing) link.reference) link.target ↔ Contains (objects_of ends link.reference) link.source)
        (sym (ends_at_with_value o a value slots link.target Incoming)) (ended link))

    pub indexed_stays : (meta : Metamodel) (next : ℕ) → IsIndexed meta next slots → IsIndexed meta next after
    indexed_stays meta next is = record {
      next_in_range = is.next_in_range;
      numbers_rise = numbers_rise_with_value o a value slots is.numbers_rise;
      names_differ = ap is_distinct (map-changed (put_value_in o a value) (λ (s : Slot). s.name) slots put_leaves_name) ∙ is.names_differ;
      each = All-map (IsSlot meta next) (put_value_in o a value) slots (All-weaker (IsSlot meta next) (λ s. IsSlot meta next (put_value_in o a value s)) (slot_same meta next) slots is.each);
      two_ended = two_ended_stays is.two_ended;
      room = λ p side. subst (λ ends. All (λ l. length l.objects ≤ l.capacity) ends) (sym (ends_at_with_value o a value slots p side)) (is.room p side);
    }

    pub listings_stay : (meta : Metamodel) (listings : List (List ObjId)) → AreListings meta slots listings → AreListings meta after listings
    listings_stay meta listings are = AreListings-changed (put_value_in o a value) (put_value_leaves o a value) put_leaves_class meta slots listings are

    -- ---- the whole model

    module _ (meta : Metamodel) (next : ℕ) (is : IsIndexed meta next slots) where
      -- the slot of a live object has a place for each attribute of its class
      pub has_place : HasAttribute meta (model_of next slots) o a → HasPlaceAt slots o a
      has_place had = by (slot_at slots o) refl (sym (class_at_slot next slots is.numbers_rise o) ∙ had.live)
        where
          of_body : (s : Slot) → Contains slots s → (b : Option Body) → s.body ≡ b → option_map (λ (body : Body). s.class) b ≡ Some had.class
              → IsSomeAnd b (λ (body : Body). HasPlace body.values a)
          of_body s there None at e = cc
          of_body s there (Some body) at e =
              let class : s.class ≡ had.class = cc in
              let places = (body_fits meta next slots is.each s body there at).places in
              let attribute = had_there meta had.class a had.info had.declared had.has in
              place_there body.values a (subst (λ all. Contains all a) (sym (places ∙ ap (attributes_had meta) class)) attribute)

          by : (r : Option Slot) → slot_at slots o ≡ r → option_and_then (λ s. option_map (λ (body : Body). s.class) s.body) r ≡ Some had.class
              → IsSomeAnd (option_and_then (λ (s : Slot). s.body) r) (λ (body : Body). HasPlace body.values a)
          by None found e = cc
          by (Some s) found e = of_body s (slot_at_stands slots o s found) s.body refl e

      pub model_put : HasPlaceAt slots o a → model_of next after ≡ with_default_value (model_of next slots) o a value
      model_put there = by value refl
        where
          kept : IsIndexed meta next after
          kept = indexed_stays meta next is

          whole : (values : List AttributeValue) → flat_map slot_values after ≡ values → model_of next after ≡ record (model_of next slots) { values = values }
          whole values e = λ i. record { next = next; live = live_stays i; gone = gone_stays i; values = e i; links = links_stay i }

          by : (r : Option Value) → value ≡ r → model_of next after ≡ with_default_value (model_of next slots) o a r
          by None none = whole (filter (λ t. not (is_value_of o a t)) (flat_map slot_values slots))
              (values_without slots o a value is.numbers_rise (values_rise_each meta next slots is.each) kept.numbers_rise (values_rise_each meta next after kept.each) there none)
          by (Some v) some = whole (insert_key value_order (filter (λ t. not (is_value_of o a t)) (flat_map slot_values slots)) (record { object = o; attribute = a; value = v }))
              (values_with slots o a value is.numbers_rise (values_rise_each meta next slots is.each) kept.numbers_rise (values_rise_each meta next after kept.each) there v some)
