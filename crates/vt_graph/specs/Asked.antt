-- What is asked of a model: what became of a name, and what an object has.
use Rattle.std.specs.Prelude.{ℕ, List, ◌++◌, map, filter, find, ◌&&◌, ◌==◌, Bool, Option, Some, None, option_map}
use Rattle.vt_base.specs.declared.numbers.ObjId.{ObjId}
use Rattle.vt_base.specs.declared.numbers.ClassId.{ClassId}
use Rattle.vt_base.specs.declared.numbers.AttrId.{AttrId}
use Rattle.vt_base.specs.declared.numbers.RefId.{RefId}
use Rattle.vt_base.specs.declared.value.Value.{Value}
use Rattle.vt_base.specs.Names.{ObjectName}
use Rattle.vt_model.specs.Model.{Model, object_named, gone_named, object_names}
use Rattle.vt_model.specs.Assigning.{is_value_of}
use Rattle.vt_model.specs.declared.model.Object.{Object}
use Rattle.vt_model.specs.declared.model.GoneObject.{GoneObject}
use Rattle.vt_model.specs.declared.model.Link.{Link}
use Rattle.vt_slots.specs.declared.slot.Side.{Side}
use Rattle.vt_slots.specs.declared.slot.Side.TheVariants.{Outgoing, Incoming}
use Rattle.vt_graph.specs.declared.seen.Seen.{Seen}
use Rattle.vt_graph.specs.declared.seen.Seen.TheVariants.{Live, Gone, Never}

-- ---- objects

abbrev pub seen_gone : Option GoneObject → Seen
seen_gone (Some o) = Gone o.number
seen_gone None = Never

abbrev pub seen_live : Option Object → Seen → Seen
seen_live (Some o) otherwise = Live o.number
seen_live None otherwise = otherwise

-- what became of a name
abbrev pub seen_of : Model → List ℕ → Seen
seen_of g name = seen_live (object_named g name) (seen_gone (gone_named g name))

-- the live object with a number
abbrev pub live_at : Model → ObjId → Option Object
live_at g o = find (λ object. object.number.0 == o.0) g.live

abbrev pub gone_at : Model → ObjId → Option GoneObject
gone_at g o = find (λ object. object.number.0 == o.0) g.gone

abbrev pub or_gone : Option Object → Option GoneObject → Option (List ℕ)
or_gone (Some o) deleted = Some o.name
or_gone None deleted = option_map (λ o. o.name) deleted

-- the name of an object, live or deleted
abbrev pub name_at : Model → ObjId → Option (List ℕ)
name_at g o = or_gone (live_at g o) (gone_at g o)

-- the class of a live object
abbrev pub class_at : Model → ObjId → Option ClassId
class_at g o = option_map (λ object. object.class) (live_at g o)

-- the names of all objects, of the live ones first
abbrev pub all_names : Model → List ObjectName
all_names g = object_names g ++ map (λ o. record { object = o.number; name = o.name }) g.gone

-- ---- values and links

-- the value that an object has for an attribute
abbrev pub value_at : Model → ObjId → AttrId → Option Value
value_at g o a = option_map (λ t. t.value) (find (is_value_of o a) g.values)

-- the link has the object on this side, and is of the reference
abbrev pub is_at : ObjId → Side → RefId → Link → Bool
is_at o Outgoing r link = link.source.0 == o.0 && link.reference.0 == r.0
is_at o Incoming r link = link.target.0 == o.0 && link.reference.0 == r.0

-- the object on the other side
abbrev pub other_of : Side → Link → ObjId
other_of Outgoing link = link.target
other_of Incoming link = link.source

-- the objects at the other ends of the links of a reference at an object
abbrev pub others_at : Model → ObjId → Side → RefId → List ObjId
others_at g o side r = map (other_of side) (filter (is_at o side r) g.links)
