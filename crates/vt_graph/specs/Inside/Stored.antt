-- The model that slots store.
use Rattle.std.specs.Prelude.{ℕ, List, [], map, flat_map, Option, Some, None, option_map, unwrap_or}
use Rattle.std.specs.List.{filter_map}
use Rattle.vt_base.specs.declared.numbers.ObjId.{ObjId}
use Rattle.vt_model.specs.Model.{Model}
use Rattle.vt_model.specs.declared.model.Object.{Object}
use Rattle.vt_model.specs.declared.model.GoneObject.{GoneObject}
use Rattle.vt_model.specs.declared.model.AttributeValue.{AttributeValue}
use Rattle.vt_model.specs.declared.model.Link.{Link}
use Rattle.vt_slots.specs.Ends.{EndList}
use Rattle.vt_slots.specs.declared.values.Held.{Held as HeldValue}
use Rattle.vt_slots.specs.declared.slot.Body.{Body}
use Rattle.vt_slots.specs.declared.slot.Slot.{Slot}
use Rattle.vt_graph.specs.Held.{Place}

abbrev pub live_object : Slot → Option Object
live_object s = option_map (λ (body : Body). record { number = s.number; name = s.name; class = s.class }) s.body

abbrev pub gone_if_none : Slot → Option Body → Option GoneObject
gone_if_none s None = Some (record { number = s.number; name = s.name })
gone_if_none s (Some body) = None

abbrev pub gone_object : Slot → Option GoneObject
gone_object s = gone_if_none s s.body

abbrev pub attribute_value : ObjId → HeldValue → Option AttributeValue
attribute_value o h = option_map (λ v. record { object = o; attribute = h.attribute; value = v }) h.value

abbrev pub body_values : ObjId → Option Body → List AttributeValue
body_values o None = []
body_values o (Some body) = filter_map (attribute_value o) body.values

abbrev pub list_links : ObjId → EndList → List Link
list_links o l = map (λ target. record { source = o; reference = l.reference; target = target }) l.objects

abbrev pub body_links : ObjId → Option Body → List Link
body_links o None = []
body_links o (Some body) = flat_map (list_links o) body.outgoing

-- the model: its links are those of the outgoing ends
abbrev pub model_of : ℕ → List Slot → Model
model_of next slots = record {
  next = next;
  live = filter_map live_object slots;
  gone = filter_map gone_object slots;
  values = flat_map (λ s. body_values s.number s.body) slots;
  links = flat_map (λ s. body_links s.number s.body) slots;
}

abbrev pub place_of : Slot → Place
place_of s = record {
  object = s.number;
  class = s.class;
  outgoing = unwrap_or (option_map (λ (body : Body). body.outgoing) s.body) [];
  incoming = unwrap_or (option_map (λ (body : Body). body.incoming) s.body) [];
}

-- the places of all objects that were ever made
abbrev pub places_of : List Slot → List Place
places_of slots = map place_of slots
