-- What is made for a new object: its body, and its places in the listings.
use Rattle.std.specs.Prelude.{List, [], ◌∷◌, ◌++◌, map, set, get_or, take, length, ◌-◌}
use Rattle.vt_base.specs.declared.numbers.ObjId.{ObjId}
use Rattle.vt_base.specs.declared.numbers.ClassId.{ClassId}
use Rattle.vt_model.specs.Creating.{default_value}
use Rattle.vt_slots.specs.declared.values.Held.{Held}
use Rattle.vt_slots.specs.declared.slot.Body.{Body}
use Rattle.vt_graph.specs.declared.plan.AttributePlan.{AttributePlan}

-- ---- a body

-- the place of an attribute, at its default
abbrev pub default_place : AttributePlan → Held
default_place p = record { attribute = p.attribute; value = default_value p.kind }

-- a body at its defaults, without links
abbrev pub new_body : List AttributePlan → Body
new_body attributes = record { values = map default_place attributes; outgoing = []; incoming = [] }

-- ---- listings

-- the listings of these classes are changed
abbrev pub changed_at : (List ObjId → List ObjId) → List ClassId → List (List ObjId) → List (List ObjId)
changed_at f [] listings = listings
changed_at f (c ∷ classes) listings = changed_at f classes (set listings c.0 (f (get_or listings c.0 [])))

-- one more object at the end
abbrev pub with_last : ObjId → List ObjId → List ObjId
with_last o objects = objects ++ o ∷ []

-- without the last object
abbrev pub without_last : List ObjId → List ObjId
without_last objects = take (length objects - 1) objects
