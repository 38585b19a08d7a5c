-- What a graph answers of links, and what a change of a link does to it: by its slots, and by its model.
use Rattle.std.proofs.Common.{◌≡◌, ℕ, ◌<◌, List, [], map, filter, length, not, sym, ap, subst, ◌∙◌, Option, Some, None, IsSome, option_map, option_and_then, unwrap_or}
use Rattle.std.specs.Prelude.{Result, Ok, Err, OnOk, OnErr}
use Rattle.std.specs.BTreeSet.{insert_key}
use Rattle.vt_base.specs.declared.numbers.ObjId.{ObjId}
use Rattle.vt_base.specs.declared.numbers.RefId.{RefId}
use Rattle.vt_model.specs.Metamodel.{Metamodel}
use Rattle.vt_model.specs.Linking.{link_order, is_link}
use Rattle.vt_model.specs.declared.model.Link.{Link}
use Rattle.vt_model.specs.declared.model.Object.{Object}
use Rattle.vt_slots.specs.Ends.{EndList, objects_of}
use Rattle.vt_slots.specs.Slots.{slot_at, body_at, ends_on, ends_at, bare}
use Rattle.vt_slots.specs.declared.slot.Side.{Side}
use Rattle.vt_slots.specs.declared.slot.Body.{Body}
use Rattle.vt_slots.specs.declared.slot.Slot.{Slot}
use Rattle.vt_graph.specs.Held.{Held}
use Rattle.vt_graph.specs.Asked.{live_at, others_at}
use Rattle.vt_graph.specs.Room.{KeepsRoom, HasRoomFor, capacity_at}
use Rattle.vt_graph.specs.Inside.Stored.{live_object, model_of, places_of}
use Rattle.vt_graph.specs.Inside.Indexed.{IsTwoEnded, IsIndexed}
use Rattle.vt_graph.specs.Inside.Ended.{AllEndsRise, AddsLink, DropsLink, SameObjects, AllKeepRoom, HasRoomAt}
use Rattle.vt_graph.proofs.ObjectLemmas.{live_at_slot}
use Rattle.vt_graph.proofs.Linked.Others.{others_are}
use Rattle.vt_graph.proofs.Linked.Stored.{all_links}
use Rattle.vt_graph.proofs.Linked.Bare.{ends_rise, model_same, room_kept, numbers_rise_same, capacity_at_ends}
use Rattle.vt_graph.proofs.Linked.Changed.{links_added, links_dropped, links_stay, two_ended_added, two_ended_stay}

-- a graph that is held, by what is inside
abbrev pub held_of : Metamodel → ℕ → List Slot → Held
held_of meta next slots = record { meta = meta; model = model_of next slots; places = places_of slots }

module _ (meta : Metamodel) (next : ℕ) (slots : List Slot) (held : Held) (is : held_of meta next slots ≡ held) (indexed : IsIndexed meta next slots) (o : ObjId) (side : Side) where
  pub others_held : (r : RefId) → objects_of (ends_at slots o side) r ≡ others_at held.model o side r
  others_held r = sym (others_are slots indexed.numbers_rise (ends_rise meta next slots indexed) indexed.two_ended o side r) ∙ ap (λ (h : Held). others_at h.model o side r) is

  -- by the ends that are found
  pub others_found : (found : Option (List EndList)) → found ≡ option_map (ends_on side) (body_at slots o) → (r : RefId) → objects_of (unwrap_or found []) r ≡ others_at held.model o side r
  others_found found are r = ap (λ f. objects_of (unwrap_or f []) r) are ∙ others_held r

-- ---- before a change

module _ (meta : Metamodel) (next : ℕ) (slots : List Slot) (held : Held) (is : held_of meta next slots ≡ held) (indexed : IsIndexed meta next slots) where
  -- a live object has a body
  pub live_body : (o : ObjId) → IsSome (live_at held.model o) → IsSome (body_at slots o)
  live_body o live = by (slot_at slots o) (subst IsSome (sym (ap (λ (h : Held). live_at h.model o) is) ∙ live_at_slot next slots indexed.numbers_rise o) live)
    where
      of_body : (s : Slot) (b : Option Body) → IsSome {T = Object} (option_map (λ (body : Body). record { number = s.number; name = s.name; class = s.class }) b) → IsSome b
      of_body s None some = some
      of_body s (Some body) some = some

      by : (f : Option Slot) → IsSome (option_and_then live_object f) → IsSome (option_and_then (λ (s : Slot). s.body) f)
      by None some = some
      by (Some s) some = of_body s s.body some

  -- room for one more link is room at the ends
  pub room_there : (o : ObjId) (side : Side) (r : RefId) → HasRoomFor held o side r → HasRoomAt slots o side r
  room_there o side r room = subst (λ n. length (objects_of (ends_at slots o side) r) < n) (ap (λ (h : Held). capacity_at h.places o side r) (sym is) ∙ capacity_at_ends slots o side r)
      (subst (λ os. length os < capacity_at held.places o side r) (sym (others_held meta next slots held is indexed o side r)) room)

-- ---- after it

-- an added link or a failure leaves each link at both its ends
pub two_ended_either : {T E : Type 0} (old new : List Slot) (link : Link) (r : Result T E) → OnOk r (AddsLink old new link) → OnErr r (SameObjects old new) → IsTwoEnded old → IsTwoEnded new
two_ended_either old new link (Ok x) adds stay two = two_ended_added old new link adds two
two_ended_either old new link (Err e) adds stay two = two_ended_stay old new stay two

module _ (meta : Metamodel) (next : ℕ) (old new : List Slot) (held : Held) (is : held_of meta next old ≡ held) (indexed : IsIndexed meta next old)
    (same : map bare new ≡ map bare old) (ends : AllEndsRise new) where
  pub model_added : (link : Link) → AddsLink old new link → model_of next new ≡ record held.model { links = insert_key link_order held.model.links link }
  model_added link adds =
      model_same old new same next (insert_key link_order (all_links old) link)
      (links_added old new link adds indexed.numbers_rise (ends_rise meta next old indexed) (numbers_rise_same old new same indexed.numbers_rise) ends)
      ∙ ap (λ (h : Held). record h.model { links = insert_key link_order h.model.links link }) is

  pub model_dropped : (link : Link) → DropsLink old new link → model_of next new ≡ record held.model { links = filter (λ l. not (is_link link l)) held.model.links }
  model_dropped link drops =
      model_same old new same next (filter (λ l. not (is_link link l)) (all_links old))
      (links_dropped old new link drops indexed.numbers_rise (ends_rise meta next old indexed) (numbers_rise_same old new same indexed.numbers_rise) ends)
      ∙ ap (λ (h : Held). record h.model { links = filter (λ l. not (is_link link l)) h.model.links }) is

  pub model_stays : SameObjects old new → model_of next new ≡ held.model
  model_stays stay =
      model_same old new same next (all_links old)
      (links_stay old new stay indexed.numbers_rise (ends_rise meta next old indexed) (numbers_rise_same old new same indexed.numbers_rise) ends)
      ∙ ap (λ (h : Held). h.model) is

  pub places_keep : AllKeepRoom old new → KeepsRoom held.places (places_of new)
  places_keep keep = subst (λ (h : Held). KeepsRoom h.places (places_of new)) is (room_kept old new same keep)
