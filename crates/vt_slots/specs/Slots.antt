-- What is kept of each object: its number, its name and its class for ever, its body while it lives.
use Rattle.std.specs.Prelude.{◌≡◌, ℕ, ◌==◌, List, [], map, find, true, Option, Some, option_map, option_and_then, unwrap_or, if◌then◌else◌}
use Rattle.std.specs.List.Sorted.{IsStrictlySortedBy}
use Rattle.std.specs.declared.cmp.Ordering.{Ordering}
use Rattle.std.specs.Ordering.{nat_cmp}
use Rattle.vt_base.specs.declared.numbers.ObjId.{ObjId}
use Rattle.vt_base.specs.declared.numbers.AttrId.{AttrId}
use Rattle.vt_base.specs.declared.numbers.ClassId.{ClassId}
use Rattle.vt_base.specs.declared.value.Value.{Value}
use Rattle.vt_facts.specs.Names.{is_name, is_distinct}
use Rattle.vt_slots.specs.Values.{value_in, with_held}
use Rattle.vt_slots.specs.Ends.{EndList}
use Rattle.vt_slots.specs.declared.slot.Side.{Side}
use Rattle.vt_slots.specs.declared.slot.Side.TheVariants.{Outgoing, Incoming}
use Rattle.vt_slots.specs.declared.slot.Body.{Body}
use Rattle.vt_slots.specs.declared.slot.Slot.{Slot}

-- the slot of a live object
abbrev pub live_slot : ObjId → List ℕ → ClassId → Body → Slot
live_slot number name class body = record { number = number; name = name; class = class; body = Some body }

-- slots by number
abbrev pub slot_order : Slot → Slot → Ordering
slot_order a b = nat_cmp a.number.0 b.number.0

-- the numbers rise, so no two slots have one
abbrev pub NumbersRise : List Slot → Type 0
NumbersRise slots = IsStrictlySortedBy slot_order slots

-- no two slots have one name
abbrev pub NamesDiffer : List Slot → Type 0
NamesDiffer slots = is_distinct (map (λ s. s.name) slots) ≡ true

-- the slot with a number
abbrev pub slot_at : List Slot → ObjId → Option Slot
slot_at slots o = find (λ s. s.number.0 == o.0) slots

-- the slot with a name
abbrev pub slot_named : List Slot → List ℕ → Option Slot
slot_named slots name = find (λ s. is_name s.name name) slots

-- what a live object has
abbrev pub body_at : List Slot → ObjId → Option Body
body_at slots o = option_and_then (λ s. s.body) (slot_at slots o)

-- the ends of a body on a side
abbrev pub ends_on : Side → Body → List EndList
ends_on Outgoing body = body.outgoing
ends_on Incoming body = body.incoming

-- the ends of an object on a side, none of one that isn't live
abbrev pub ends_at : List Slot → ObjId → Side → List EndList
ends_at slots o side = unwrap_or (option_map (ends_on side) (body_at slots o)) []

-- the value that an object has for an attribute
abbrev pub slot_value : List Slot → ObjId → AttrId → Option Value
slot_value slots o a = option_and_then (λ (body : Body). value_in body.values a) (body_at slots o)

-- ---- what a change does

-- a slot, with this body where it is the object's
abbrev pub put_body : ObjId → Option Body → Slot → Slot
put_body o body s = if s.number.0 == o.0 then record s { body = body } else s

-- the same slots, that of an object with this body
abbrev pub with_body : List Slot → ObjId → Option Body → List Slot
with_body slots o body = map (put_body o body) slots

-- the same body with a value at an attribute's place
abbrev pub with_value_at : AttrId → Option Value → Body → Body
with_value_at a value body = record body { values = with_held body.values a value }

-- a slot, with a value at an attribute's place where it is the object's
abbrev pub put_value_in : ObjId → AttrId → Option Value → Slot → Slot
put_value_in o a value s = if s.number.0 == o.0 then record s { body = option_map (with_value_at a value) s.body } else s

-- the same slots, that of an object with a value at an attribute's place
abbrev pub with_slot_value : List Slot → ObjId → AttrId → Option Value → List Slot
with_slot_value slots o a value = map (put_value_in o a value) slots

-- a body without its ends
abbrev pub bare_body : Body → Body
bare_body body = record body { outgoing = []; incoming = [] }

-- a slot without its ends
abbrev pub bare : Slot → Slot
bare s = record s { body = option_map bare_body s.body }

-- the ends of all objects and sides but one stay
abbrev pub OtherEndsStay : List Slot → List Slot → ObjId → Side → Type 0
OtherEndsStay old new o side = (p : ObjId) (t : Side) → (p.0 ≡ o.0 → t ≡ side → ⊥) → ends_at new p t ≡ ends_at old p t
