-- The rows of a model, as they are read from its slots.
use Rattle.std.specs.Prelude.{List, [], ◌∷◌, map, flat_map, is_some, Option, Some, None, option_map, option_to_list, unwrap_or, slice_get, if◌then◌else◌}
use Rattle.vt_base.specs.declared.numbers.ObjId.{ObjId}
use Rattle.vt_base.specs.declared.numbers.ClassId.{ClassId}
use Rattle.vt_base.specs.declared.numbers.RefId.{RefId}
use Rattle.vt_base.specs.declared.value.Value.{Value}
use Rattle.vt_base.specs.declared.value.Value.TheVariants.{Obj}
use Rattle.vt_model.specs.Metamodel.{Metamodel}
use Rattle.vt_slots.specs.Ends.{objects_of}
use Rattle.vt_slots.specs.Slots.{body_at, slot_value}
use Rattle.vt_slots.specs.declared.slot.Body.{Body}
use Rattle.vt_slots.specs.declared.slot.Slot.{Slot}
use Rattle.vt_graph.specs.declared.rows.Listed.{Listed}
use Rattle.vt_graph.specs.declared.rows.Listed.TheVariants.{Class, Attribute, Reference}

-- ---- over which objects

-- the class over whose objects the rows go: that which declares an attribute or a reference
abbrev pub class_listed : Metamodel → Listed → Option ClassId
class_listed meta (Class c) = Some c
class_listed meta (Attribute a) = option_map (λ info. info.class) (slice_get meta.attributes a.0)
class_listed meta (Reference r) = option_map (λ info. info.class) (slice_get meta.references r.0)

-- the listing of a class, or all objects where the class isn't there
abbrev pub listed : List Slot → List (List ObjId) → ClassId → List ObjId
listed slots listings c = unwrap_or (slice_get listings c.0) (map (λ s. s.number) slots)

-- ---- the rows of one

-- the row of an object that has a value
abbrev pub value_row : ObjId → Option Value → Option (List Value)
value_row o value = option_map (λ v. Obj o ∷ v ∷ []) value

-- the targets of a body's links of a reference
abbrev pub targets_in : RefId → Option Body → List ObjId
targets_in r None = []
targets_in r (Some body) = objects_of body.outgoing r

-- a row for each target of an object
abbrev pub target_rows : ObjId → List ObjId → List (List Value)
target_rows o targets = map (λ target. Obj o ∷ Obj target ∷ []) targets

-- the rows that an object gives
abbrev pub object_rows : List Slot → Listed → ObjId → List (List Value)
object_rows slots (Class c) o = if is_some (body_at slots o) then (Obj o ∷ []) ∷ [] else []
object_rows slots (Attribute a) o = option_to_list (value_row o (slot_value slots o a))
object_rows slots (Reference r) o = target_rows o (targets_in r (body_at slots o))

-- those that each object of a listing gives
abbrev pub rows_listed : List Slot → Listed → List ObjId → List (List Value)
rows_listed slots of listing = flat_map (object_rows slots of) listing
