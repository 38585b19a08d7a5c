-- What holds of the slots of a model, and of what is worked out beside them.
use Rattle.std.specs.Prelude.{◌≡◌, ℕ, ◌<◌, ◌≤◌, ◌↔◌, List, map, length, Contains, All, IfSome}
use Rattle.vt_base.specs.declared.numbers.ObjId.{ObjId}
use Rattle.vt_base.specs.declared.numbers.ClassId.{ClassId}
use Rattle.vt_model.specs.Metamodel.{Metamodel}
use Rattle.vt_model.specs.declared.model.Link.{Link}
use Rattle.vt_slots.specs.Ends.{ReferencesRise, ObjectsRise, objects_of}
use Rattle.vt_slots.specs.Slots.{NumbersRise, NamesDiffer, ends_at}
use Rattle.vt_slots.specs.declared.slot.Side.{Side}
use Rattle.vt_slots.specs.declared.slot.Side.TheVariants.{Outgoing, Incoming}
use Rattle.vt_slots.specs.declared.slot.Body.{Body}
use Rattle.vt_slots.specs.declared.slot.Slot.{Slot}
use Rattle.vt_graph.specs.Inside.Planned.{attributes_had}

-- the ends of a body rise, and its values have the places of the class's attributes
pub record IsBodyOf (meta : Metamodel) (c : ClassId) (body : Body) : Type 0 where
  pub places : map (λ h. h.attribute) body.values ≡ attributes_had meta c
  pub outgoing_rise : ReferencesRise body.outgoing
  pub outgoing_objects : All (λ l. ObjectsRise l.objects) body.outgoing
  pub incoming_rise : ReferencesRise body.incoming
  pub incoming_objects : All (λ l. ObjectsRise l.objects) body.incoming

-- the slot's class is there, its number is below the next one, and its body is one of its class
pub record IsSlot (meta : Metamodel) (next : ℕ) (s : Slot) : Type 0 where
  pub class : s.class.0 < length meta.classes
  pub below : s.number.0 < next
  pub body : IfSome s.body (IsBodyOf meta s.class)

-- a link stands at its source exactly where it stands at its target
abbrev pub IsTwoEnded : List Slot → Type 0
IsTwoEnded slots = (link : Link)
    → Contains (objects_of (ends_at slots link.source Outgoing) link.reference) link.target
    ↔ Contains (objects_of (ends_at slots link.target Incoming) link.reference) link.source

-- what holds of the slots of a model
pub record IsIndexed (meta : Metamodel) (next : ℕ) (slots : List Slot) : Type 0 where
  pub next_in_range : next ≤ 1048576
  pub numbers_rise : NumbersRise slots
  pub names_differ : NamesDiffer slots
  pub each : All (IsSlot meta next) slots
  pub two_ended : IsTwoEnded slots
  -- the objects at the ends fit in their room
  pub room : (o : ObjId) (side : Side) → All (λ l. length l.objects ≤ l.capacity) (ends_at slots o side)
