-- An object that is buried, and one that is raised: what the model holds then, and that all that holds of slots holds still.
use Rattle.std.proofs.Common.{◌≡◌, ◌≢◌, ℕ, ◌≤◌, ◌==◌, List, [], length, filter, not, refl, sym, ap, subst, ◌∙◌, ◌⊎◌, inl, inr, cond, true, false, arith, Option, Some, None, IsSome, option_map, option_and_then, le_of_eq}
use Rattle.std.specs.Prelude.{Contains, All, IfSome}
use Rattle.std.specs.BTreeSet.{insert_key}
use Rattle.std.specs.List.{filter_map}
use Rattle.std.proofs.lemmas.Bool.{cases_eq}
use Rattle.std.proofs.lemmas.Option.{same_Some}
use Rattle.std.proofs.lemmas.List.Elements.{All-nil, All-contains, All-map}
use Rattle.std.proofs.lemmas.List.Folds.{flat_map-map}
use Rattle.vt_base.specs.declared.numbers.ObjId.{ObjId}
use Rattle.vt_base.specs.declared.numbers.RefId.{RefId}
use Rattle.vt_base.specs.declared.value.Value.{Value}
use Rattle.vt_model.specs.Metamodel.{Metamodel}
use Rattle.vt_facts.specs.Names.{is_distinct}
use Rattle.vt_model.specs.Valid.{object_order}
use Rattle.vt_model.specs.Deleting.{gone_order}
use Rattle.vt_model.specs.declared.model.Object.{Object}
use Rattle.vt_model.specs.declared.model.GoneObject.{GoneObject}
use Rattle.vt_model.specs.declared.model.AttributeValue.{AttributeValue}
use Rattle.vt_facts.proofs.MemberLemmas.{All-from_contains}
use Rattle.vt_slots.specs.Ends.{EndList, objects_of, capacity_of}
use Rattle.vt_slots.specs.Slots.{slot_at, body_at, ends_on, ends_at, put_body, with_body}
use Rattle.vt_slots.specs.declared.slot.Side.{Side}
use Rattle.vt_slots.specs.declared.slot.Side.TheVariants.{Outgoing, Incoming}
use Rattle.vt_slots.specs.declared.values.Held.{Held}
use Rattle.vt_slots.specs.declared.slot.Body.{Body}
use Rattle.vt_slots.specs.declared.slot.Slot.{Slot}
use Rattle.vt_graph.specs.Asked.{live_at}
use Rattle.vt_graph.specs.Room.{KeepsRoom, KeepsOthersRoom, capacity_at, class_kept}
use Rattle.vt_graph.specs.Passing.{HasNoLinks, HasNoValues, with_buried, with_raised}
use Rattle.vt_graph.specs.Inside.Stored.{model_of, live_object, gone_object, gone_if_none, attribute_value, body_values, places_of}
use Rattle.vt_graph.specs.Inside.Planned.{AreListings}
use Rattle.vt_graph.specs.Inside.Indexed.{IsBodyOf, IsSlot, IsIndexed}
use Rattle.vt_graph.specs.Inside.Ended.{EndsRise, SameObjects}
use Rattle.vt_graph.specs.Inside.Spare.{IsSpare}
use Rattle.vt_facts.proofs.ChosenLemmas.{Contains-from_filter_map, flat_map-agree}
use Rattle.vt_graph.proofs.SlotLemmas.{same_object, slot_at_stands, slot_at_number, slot_at_is, body_at_found, ends_at_body, ends_at_none, put_body_own, put_body_other, slot_at_with_body, numbers_rise_with_body, body_at_with_body_own, ends_at_with_body_other}
use Rattle.vt_graph.proofs.HadLemmas.{body_fits}
use Rattle.vt_graph.proofs.StayLemmas.{map-changed}
use Rattle.vt_graph.proofs.ObjectLemmas.{live_at_slot, live_object_is, gone_object_is, object_of, gone_of, slot_of_gone}
use Rattle.vt_graph.proofs.ListingLemmas.{are_listings_with_body}
use Rattle.vt_graph.proofs.LoneLemmas.{nothing, lone_ends, lone_values, lone_places}
use Rattle.vt_graph.proofs.BodyLemmas.{chosen_dropped, chosen_added}
use Rattle.vt_graph.proofs.Linked.Ends.{objects_of_is}
use Rattle.vt_graph.proofs.Linked.Bare.{class_kept_slot, capacity_at_ends, ends_rise}
use Rattle.vt_graph.proofs.Linked.Changed.{two_ended_stay, links_stay}

-- ---- the numbers of what is chosen

live_numbered : (s : Slot) (x : Object) → live_object s ≡ Some x → x.number.0 ≡ s.number.0
live_numbered s x e = ap (λ (y : Object). y.number.0) (live_object_is s x e)

gone_numbered : (s : Slot) (x : GoneObject) → gone_object s ≡ Some x → x.number.0 ≡ s.number.0
gone_numbered s x e = ap (λ (y : GoneObject). y.number.0) (gone_object_is s x e)

-- the slot of a live object
pub live_slot : (meta : Metamodel) (next : ℕ) (slots : List Slot) (o : ObjId) → IsIndexed meta next slots → IsSome (live_at (model_of next slots) o)
    → (s : Slot) × (slot_at slots o ≡ Some s) × ((body : Body) × (s.body ≡ Some body))
live_slot meta next slots o is live = by (slot_at slots o) refl (subst IsSome (live_at_slot next slots is.numbers_rise o) live)
  where
    of_body : (s : Slot) (b : Option Body) → s.body ≡ b → IsSome (option_map (λ (body : Body). object_of s) b) → (body : Body) × (s.body ≡ Some body)
    of_body s None e there = cc
    of_body s (Some body) e there = (body, e)

    by : (r : Option Slot) → slot_at slots o ≡ r → IsSome (option_and_then live_object r) → (s : Slot) × (slot_at slots o ≡ Some s) × ((body : Body) × (s.body ≡ Some body))
    by None e there = cc
    by (Some s) e there = (s, e, of_body s s.body refl there)

module _ (meta : Metamodel) (next : ℕ) (slots : List Slot) (is : IsIndexed meta next slots) (o : ObjId) (s : Slot) (found : slot_at slots o ≡ Some s) where
  own_is : (t : Slot) → Contains slots t → t.number.0 ≡ o.0 → t ≡ s
  own_is t there same = let at : slot_at slots o ≡ Some t = slot_at_is slots o is.numbers_rise t there (same_object t.number o same) in let both : Some t ≡ Some s = sym at ∙ found in cc

  number_is : s.number.0 ≡ o.0
  number_is = ap (λ (p : ObjId). p.0) (slot_at_number slots o s found)

  -- ---- any body that comes or goes

  module _ (body : Option Body) (fits : IfSome body (IsBodyOf meta s.class)) (same : SameObjects slots (with_body slots o body))
      (own_room : (side : Side) → All (λ l. length l.objects ≤ l.capacity) (ends_at (with_body slots o body) o side)) where
    name_stays : (t : Slot) → (put_body o body t).name ≡ t.name
    name_stays t = elim (t.number.0 == o.0) as (λ b. (cond b (record t { body = body }) t).name ≡ t.name) [
      | true ↦ refl
      | false ↦ refl
    ]

    slot_fits : (t : Slot) → Contains slots t → IsSlot meta next (put_body o body t)
    slot_fits t there = by (cases_eq t.number.0 o.0)
      where
        old : IsSlot meta next t
        old = All-contains (IsSlot meta next) slots t is.each there

        by : (t.number.0 ≡ o.0) ⊎ (t.number.0 ≢ o.0) → IsSlot meta next (put_body o body t)
        by (inr apart) = subst (IsSlot meta next) (sym (put_body_other o body t apart)) old
        by (inl e) = subst (IsSlot meta next) (sym (put_body_own o body t (same_object t.number o e)))
            (record { class = old.class; below = old.below; body = subst (λ (u : Slot). IfSome body (IsBodyOf meta u.class)) (sym (own_is t there e)) fits })

    lists_fit : (p : ObjId) (side : Side) → All (λ l. length l.objects ≤ l.capacity) (ends_at (with_body slots o body) p side)
    lists_fit p side = by (cases_eq p.0 o.0)
      where
        by : (p.0 ≡ o.0) ⊎ (p.0 ≢ o.0) → All (λ l. length l.objects ≤ l.capacity) (ends_at (with_body slots o body) p side)
        by (inr apart) = subst (λ ends. All (λ l. length l.objects ≤ l.capacity) ends) (sym (ends_at_with_body_other o body slots p apart side)) (is.room p side)
        by (inl e) = subst (λ q. All (λ l. length l.objects ≤ l.capacity) (ends_at (with_body slots o body) q side)) (same_object o p (sym e)) (own_room side)

    pub indexed_with_body : IsIndexed meta next (with_body slots o body)
    indexed_with_body = record {
      next_in_range = is.next_in_range;
      numbers_rise = numbers_rise_with_body o body slots is.numbers_rise;
      names_differ = ap is_distinct (map-changed (put_body o body) (λ (t : Slot). t.name) slots name_stays) ∙ is.names_differ;
      each = All-map (IsSlot meta next) (put_body o body) slots (All-from_contains (λ t. IsSlot meta next (put_body o body t)) slots slot_fits);
      two_ended = two_ended_stay slots (with_body slots o body) same is.two_ended;
      room = lists_fit;
    }

    links_with_body : (model_of next (with_body slots o body)).links ≡ (model_of next slots).links
    links_with_body = links_stay slots (with_body slots o body) same is.numbers_rise (ends_rise meta next slots is)
        (numbers_rise_with_body o body slots is.numbers_rise) (ends_rise meta next (with_body slots o body) indexed_with_body)

    -- values stay where neither body has any
    values_with_body : body_values s.number s.body ≡ [] → body_values s.number body ≡ [] → (model_of next (with_body slots o body)).values ≡ (model_of next slots).values
    values_with_body none_before none_now =
        flat_map-map (λ (t : Slot). body_values t.number t.body) (put_body o body) slots
        ∙ flat_map-agree (λ t. body_values (put_body o body t).number (put_body o body t).body) (λ t. body_values t.number t.body) slots (λ t there. by t there (cases_eq t.number.0 o.0))
      where
        by : (t : Slot) → Contains slots t → (t.number.0 ≡ o.0) ⊎ (t.number.0 ≢ o.0) → body_values (put_body o body t).number (put_body o body t).body ≡ body_values t.number t.body
        by t there (inr apart) = ap (λ (u : Slot). body_values u.number u.body) (put_body_other o body t apart)
        by t there (inl e) =
            ap (λ (u : Slot). body_values u.number u.body) (put_body_own o body t (same_object t.number o e))
            ∙ ap (λ (u : Slot). body_values u.number body) (own_is t there e) ∙ none_now ∙ sym none_before ∙ ap (λ (u : Slot). body_values u.number u.body) (sym (own_is t there e))

  -- ---- the places

  pub class_with_body : (body : Option Body) (p : ObjId) → class_kept (places_of (with_body slots o body)) p ≡ class_kept (places_of slots) p
  class_with_body body p =
      class_kept_slot (with_body slots o body) p ∙ ap (option_map (λ (t : Slot). t.class)) (slot_at_with_body o body slots p) ∙ by (slot_at slots p) ∙ sym (class_kept_slot slots p)
    where
      of_slot : (t : Slot) → (put_body o body t).class ≡ t.class
      of_slot t = elim (t.number.0 == o.0) as (λ b. (cond b (record t { body = body }) t).class ≡ t.class) [
        | true ↦ refl
        | false ↦ refl
      ]

      by : (r : Option Slot) → option_map (λ (t : Slot). t.class) (option_map (put_body o body) r) ≡ option_map (λ (t : Slot). t.class) r
      by None = refl
      by (Some t) = ap Some (of_slot t)

  pub room_with_body : (body : Option Body) → KeepsOthersRoom o (places_of slots) (places_of (with_body slots o body))
  room_with_body body = record {
    room = λ p side r apart.
        le_of_eq (capacity_at_ends slots p side r ∙ ap (λ ends. capacity_of ends r) (sym (ends_at_with_body_other o body slots p apart side)) ∙ sym (capacity_at_ends (with_body slots o body) p side r));
    classes = λ p c apart kept. class_with_body body p ∙ kept;
  }

  -- ---- a body goes

  module _ (body : Body) (had : s.body ≡ Some body) (lone : HasNoLinks (model_of next slots) o) (bare : HasNoValues (model_of next slots) o) where
    same_without : SameObjects slots (with_body slots o None)
    same_without p side r = by (cases_eq p.0 o.0)
      where
        by : (p.0 ≡ o.0) ⊎ (p.0 ≢ o.0) → objects_of (ends_at (with_body slots o None) p side) r ≡ objects_of (ends_at slots p side) r
        by (inr apart) = ap (λ ends. objects_of ends r) (ends_at_with_body_other o None slots p apart side)
        by (inl e) = subst (λ q. objects_of (ends_at (with_body slots o None) q side) r ≡ objects_of (ends_at slots q side) r) (same_object o p (sym e))
            (ap (λ ends. objects_of ends r) (ends_at_none (with_body slots o None) o (body_at_with_body_own o None slots s found) side) ∙ sym (lone_ends meta next slots is o lone side r))

    none_fit : (side : Side) → All (λ l. length l.objects ≤ l.capacity) (ends_at (with_body slots o None) o side)
    none_fit side = subst (λ ends. All (λ l. length l.objects ≤ l.capacity) ends)
        (sym (ends_at_none (with_body slots o None) o (body_at_with_body_own o None slots s found) side)) (All-nil (λ (l : EndList). length l.objects ≤ l.capacity))

    pub indexed_buried : IsIndexed meta next (with_body slots o None)
    indexed_buried = indexed_with_body None tt same_without none_fit

    pub model_buried : model_of next (with_body slots o None) ≡ with_buried (model_of next slots) (object_of s)
    model_buried = λ i. record { next = next; live = live_left i; gone = gone_too i; values = values_left i; links = links_with_body None tt same_without none_fit i }
      where
        live_left : filter_map live_object (with_body slots o None) ≡ filter (λ x. not (x.number.0 == s.number.0)) (filter_map live_object slots)
        live_left = chosen_dropped live_object (λ x. x.number.0) live_numbered slots is.numbers_rise o s found None refl
            ∙ ap (λ n. filter (λ (x : Object). not (x.number.0 == n)) (filter_map live_object slots)) (sym number_is)

        gone_too : filter_map gone_object (with_body slots o None) ≡ insert_key gone_order (filter_map gone_object slots) (gone_of s)
        gone_too = chosen_added gone_object (λ x. x.number.0) gone_numbered slots is.numbers_rise o s found None (ap (gone_if_none s) had) (gone_of s) refl

        values_left : (model_of next (with_body slots o None)).values ≡ (model_of next slots).values
        values_left = values_with_body None tt same_without none_fit (lone_values next slots o bare s (slot_at_stands slots o s found) (slot_at_number slots o s found)) refl

    pub spare_buried : IsSpare meta s.class body
    spare_buried = record {
      body = body_fits meta next slots is.each s body (slot_at_stands slots o s found) had;
      no_values = lone_places next slots o bare s (slot_at_stands slots o s found) (slot_at_number slots o s found) body had;
      no_links = λ side r. ap (λ ends. objects_of ends r) (sym (ends_at_body slots o body (body_at_found slots o s found ∙ had) side)) ∙ lone_ends meta next slots is o lone side r;
    }

    pub capacity_buried : (side : Side) (r : RefId) → capacity_of (ends_on side body) r ≡ capacity_at (places_of slots) o side r
    capacity_buried side r = ap (λ ends. capacity_of ends r) (sym (ends_at_body slots o body (body_at_found slots o s found ∙ had) side)) ∙ sym (capacity_at_ends slots o side r)

  -- ---- a body comes

  module _ (none : s.body ≡ None) (body : Body) (spare : IsSpare meta s.class body) where
    no_body : body_at slots o ≡ None
    no_body = body_at_found slots o s found ∙ none

    ends_now : (side : Side) → ends_at (with_body slots o (Some body)) o side ≡ ends_on side body
    ends_now side = ends_at_body (with_body slots o (Some body)) o body (body_at_with_body_own o (Some body) slots s found) side

    same_with : SameObjects slots (with_body slots o (Some body))
    same_with p side r = by (cases_eq p.0 o.0)
      where
        by : (p.0 ≡ o.0) ⊎ (p.0 ≢ o.0) → objects_of (ends_at (with_body slots o (Some body)) p side) r ≡ objects_of (ends_at slots p side) r
        by (inr apart) = ap (λ ends. objects_of ends r) (ends_at_with_body_other o (Some body) slots p apart side)
        by (inl e) = subst (λ q. objects_of (ends_at (with_body slots o (Some body)) q side) r ≡ objects_of (ends_at slots q side) r) (same_object o p (sym e))
            (ap (λ ends. objects_of ends r) (ends_now side) ∙ spare.no_links side r ∙ sym (ap (λ ends. objects_of ends r) (ends_at_none slots o no_body side)))

    -- its ends list nothing, so they fit
    spare_fit : (side : Side) → All (λ l. length l.objects ≤ l.capacity) (ends_at (with_body slots o (Some body)) o side)
    spare_fit side = subst (λ ends. All (λ l. length l.objects ≤ l.capacity) ends) (sym (ends_now side))
        (All-from_contains (λ (l : EndList). length l.objects ≤ l.capacity) (ends_on side body) (λ l there.
        let none : l.objects ≡ [] = sym (objects_of_is (ends_on side body) (spare_rise side) l there) ∙ spare.no_links side l.reference in
        let empty : length l.objects ≡ 0 = ap length none in
        omega (arith, empty)))
      where
        spare_rise : (side : Side) → EndsRise (ends_on side body)
        spare_rise Outgoing = record { references = spare.body.outgoing_rise; objects = spare.body.outgoing_objects }
        spare_rise Incoming = record { references = spare.body.incoming_rise; objects = spare.body.incoming_objects }

    pub indexed_raised : IsIndexed meta next (with_body slots o (Some body))
    indexed_raised = indexed_with_body (Some body) spare.body same_with spare_fit

    pub model_raised : model_of next (with_body slots o (Some body)) ≡ with_raised (model_of next slots) (object_of s)
    model_raised = λ i. record { next = next; live = live_too i; gone = gone_left i; values = values_left i; links = links_with_body (Some body) spare.body same_with spare_fit i }
      where
        live_too : filter_map live_object (with_body slots o (Some body)) ≡ insert_key object_order (filter_map live_object slots) (object_of s)
        live_too = chosen_added live_object (λ x. x.number.0) live_numbered slots is.numbers_rise o s found (Some body) (ap (option_map (λ (b : Body). object_of s)) none) (object_of s) refl

        gone_left : filter_map gone_object (with_body slots o (Some body)) ≡ filter (λ x. not (x.number.0 == s.number.0)) (filter_map gone_object slots)
        gone_left = chosen_dropped gone_object (λ x. x.number.0) gone_numbered slots is.numbers_rise o s found (Some body) refl
            ∙ ap (λ n. filter (λ (x : GoneObject). not (x.number.0 == n)) (filter_map gone_object slots)) (sym number_is)

        empty : body_values s.number (Some body) ≡ []
        empty = nothing (filter_map (attribute_value s.number) body.values) (λ t there.
            let at = Contains-from_filter_map (attribute_value s.number) body.values t there in
            let out : at.0.value ≡ None = All-contains (λ (h : Held). h.value ≡ None) body.values at.0 spare.no_values at.1 in
            of_value at.0 t at.0.value refl at.2 out)
          where
            of_value : (h : Held) (t : AttributeValue) (r : Option Value) → h.value ≡ r → option_map (λ v. record { object = s.number; attribute = h.attribute; value = v }) r ≡ Some t → r ≡ None → ⊥
            of_value h t None e of out = cc
            of_value h t (Some v) e of out = cc

        values_left : (model_of next (with_body slots o (Some body))).values ≡ (model_of next slots).values
        values_left = values_with_body (Some body) spare.body same_with spare_fit (ap (body_values s.number) none) empty

    pub room_raised : KeepsRoom (places_of slots) (places_of (with_body slots o (Some body)))
    room_raised = record { room = room; classes = λ p c kept. class_with_body (Some body) p ∙ kept }
      where
        room : (p : ObjId) (side : Side) (r : RefId) → capacity_at (places_of slots) p side r ≤ capacity_at (places_of (with_body slots o (Some body))) p side r
        room p side r = by (cases_eq p.0 o.0)
          where
            by : (p.0 ≡ o.0) ⊎ (p.0 ≢ o.0) → capacity_at (places_of slots) p side r ≤ capacity_at (places_of (with_body slots o (Some body))) p side r
            by (inr apart) = (room_with_body (Some body)).room p side r apart
            by (inl e) =
                let before : capacity_at (places_of slots) p side r ≡ 0 = capacity_at_ends slots p side r ∙ ap (λ q. capacity_of (ends_at slots q side) r) (same_object p o e) ∙ ap (λ ends. capacity_of ends r) (ends_at_none slots o no_body side) in
                omega (arith, before)

    pub capacity_raised : (side : Side) (r : RefId) → capacity_at (places_of (with_body slots o (Some body))) o side r ≡ capacity_of (ends_on side body) r
    capacity_raised side r = capacity_at_ends (with_body slots o (Some body)) o side r ∙ ap (λ ends. capacity_of ends r) (ends_now side)

-- ---- what holds once an object is buried

pub record IsBuried (meta : Metamodel) (next : ℕ) (old new : List Slot) (o : ObjId) (x : Object) (body : Body) : Type 0 where
  pub object : live_at (model_of next old) o ≡ Some x
  pub indexed : IsIndexed meta next new
  pub model : model_of next new ≡ with_buried (model_of next old) x
  pub listings : (listings : List (List ObjId)) → AreListings meta old listings → AreListings meta new listings
  pub spare : IsSpare meta x.class body
  pub own_room : (side : Side) (r : RefId) → capacity_of (ends_on side body) r ≡ capacity_at (places_of old) o side r
  pub room : KeepsOthersRoom o (places_of old) (places_of new)
  pub class : class_kept (places_of new) o ≡ Some x.class
  pub was : class_kept (places_of old) o ≡ Some x.class

pub is_buried : (meta : Metamodel) (next : ℕ) (old new : List Slot) (o : ObjId) (x : Object) (s : Slot) (body : Body) → IsIndexed meta next old
    → HasNoLinks (model_of next old) o → HasNoValues (model_of next old) o → slot_at old o ≡ Some s → s.body ≡ Some body → new ≡ with_body old o None → x ≡ object_of s
    → IsBuried meta next old new o x body
is_buried meta next old new o x s body is lone bare found had left object_is =
    subst (λ slots. IsBuried meta next old slots o x body) (sym left) (subst (λ y. IsBuried meta next old (with_body old o None) o y body) (sym object_is) (record {
      object = live_at_slot next old is.numbers_rise o ∙ ap (option_and_then live_object) found ∙ ap (option_map (λ (b : Body). object_of s)) had;
      indexed = indexed_buried meta next old is o s found body had lone bare;
      model = model_buried meta next old is o s found body had lone bare;
      listings = λ listings are. are_listings_with_body meta old o None listings are;
      spare = spare_buried meta next old is o s found body had lone bare;
      own_room = capacity_buried meta next old is o s found body had lone bare;
      room = room_with_body meta next old is o s found None;
      class = class_with_body meta next old is o s found None o ∙ class_kept_slot old o ∙ ap (option_map (λ (t : Slot). t.class)) found;
      was = class_kept_slot old o ∙ ap (option_map (λ (t : Slot). t.class)) found;
    }))

-- ---- and once it is raised

pub record IsRaised (meta : Metamodel) (next : ℕ) (old new : List Slot) (x : Object) (body : Body) : Type 0 where
  pub indexed : IsIndexed meta next new
  pub model : model_of next new ≡ with_raised (model_of next old) x
  pub listings : (listings : List (List ObjId)) → AreListings meta old listings → AreListings meta new listings
  pub own_room : (side : Side) (r : RefId) → capacity_at (places_of new) x.number side r ≡ capacity_of (ends_on side body) r
  pub room : KeepsRoom (places_of old) (places_of new)

-- the slot of a deleted object
pub gone_slot : (meta : Metamodel) (next : ℕ) (slots : List Slot) (x : Object) → IsIndexed meta next slots → Contains (model_of next slots).gone (record { number = x.number; name = x.name })
    → class_kept (places_of slots) x.number ≡ Some x.class → (s : Slot) × (slot_at slots x.number ≡ Some s) × (s.body ≡ None) × (x ≡ object_of s)
gone_slot meta next slots x is gone kept =
    let at = slot_of_gone next slots (record { number = x.number; name = x.name }) gone in
    let number : at.0.number ≡ x.number = sym (ap (λ (y : GoneObject). y.number) at.3) in
    let found : slot_at slots x.number ≡ Some at.0 = slot_at_is slots x.number is.numbers_rise at.0 at.1 number in
    let name : at.0.name ≡ x.name = sym (ap (λ (y : GoneObject). y.name) at.3) in
    let class : Some at.0.class ≡ Some x.class = sym (class_kept_slot slots x.number ∙ ap (option_map (λ (t : Slot). t.class)) found) ∙ kept in
    let class_is : at.0.class ≡ x.class = same_Some at.0.class x.class class in
    (at.0, found, at.2, sym (λ i. record { number = number i; name = name i; class = class_is i }))

pub is_raised : (meta : Metamodel) (next : ℕ) (old new : List Slot) (x : Object) (body : Body) → IsIndexed meta next old
    → Contains (model_of next old).gone (record { number = x.number; name = x.name }) → class_kept (places_of old) x.number ≡ Some x.class → IsSpare meta x.class body
    → new ≡ with_body old x.number (Some body) → IsRaised meta next old new x body
is_raised meta next old new x body is gone kept spare given =
    let at = gone_slot meta next old x is gone kept in
    let fits : IsSpare meta at.0.class body = subst (λ (y : Object). IsSpare meta y.class body) at.3 spare in
    subst (λ slots. IsRaised meta next old slots x body) (sym given) (record {
      indexed = indexed_raised meta next old is x.number at.0 at.1 at.2 body fits;
      model = model_raised meta next old is x.number at.0 at.1 at.2 body fits ∙ ap (with_raised (model_of next old)) (sym at.3);
      listings = λ listings are. are_listings_with_body meta old x.number (Some body) listings are;
      own_room = capacity_raised meta next old is x.number at.0 at.1 at.2 body fits;
      room = room_raised meta next old is x.number at.0 at.1 at.2 body fits;
    })

-- what is found where something of it is
pub there_mapped : {A B : Type 0} (f : A → B) (r : Option A) (y : B) → option_map f r ≡ Some y → IsSome r
there_mapped f None y e = cc
there_mapped f (Some x) y e = refl

pub there_some : {A : Type 0} (r : Option A) (x : A) → r ≡ Some x → IsSome r
there_some None x e = cc
there_some (Some y) x e = refl
