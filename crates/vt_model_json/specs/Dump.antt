-- The text of a model: its document, with all keys.
use Rattle.std.specs.Prelude.{ℕ, ◌+◌, ◌==◌, List, [], ◌∷◌, map, filter, find, slice_get, codes, option_and_then, option_map, unwrap_or}
use Rattle.serde_json.specs.Data.{Data, null, boolean, number, unsigned, string, array, object, Items, no_items, item, Members, no_members, member, put}
use Rattle.serde_json.specs.Find.{of_integer}
use Rattle.serde_json.specs.Written.{compact_text}
use Rattle.vt_base.specs.declared.numbers.ObjId.{ObjId}
use Rattle.vt_base.specs.declared.numbers.ClassId.{ClassId}
use Rattle.vt_base.specs.declared.numbers.AttrId.{AttrId}
use Rattle.vt_base.specs.declared.value.Value.{Value}
use Rattle.vt_base.specs.declared.value.Value.TheVariants.{Bool, Int, Text, Enum, Obj}
use Rattle.vt_model.specs.Metamodel.{Metamodel}
use Rattle.vt_model.specs.Model.{Model}
use Rattle.vt_model.specs.declared.metamodel.RefInfo.{RefInfo}
use Rattle.vt_model.specs.declared.model.Object.{Object}
use Rattle.vt_model.specs.declared.model.AttributeValue.{AttributeValue}
use Rattle.vt_model.specs.declared.model.Link.{Link}

-- ---- names

-- the name of the class with this number
abbrev pub class_name : Metamodel → ClassId → List ℕ
class_name meta c = unwrap_or (option_map (λ info. info.name) (slice_get meta.classes c.0)) []

-- the name of the attribute with this number
abbrev pub attribute_name : Metamodel → AttrId → List ℕ
attribute_name meta a = unwrap_or (option_map (λ info. info.name) (slice_get meta.attributes a.0)) []

-- the name of the literal with this number of the enum with that number
abbrev pub literal_name : Metamodel → ℕ → ℕ → List ℕ
literal_name meta e l = unwrap_or (option_and_then (λ enum. slice_get enum.literals l) (slice_get meta.enums e)) []

-- the name of the object with this number
abbrev pub name_of : Model → ObjId → List ℕ
name_of g o = unwrap_or (option_map (λ object. object.name) (find (λ object. object.number.0 == o.0) g.live)) []

-- ---- attributes

-- the attribute values of an object
abbrev pub values_of : Model → ObjId → List AttributeValue
values_of g o = filter (λ t. t.object.0 == o.0) g.values

-- a literal stands by its name; no attribute has an object
abbrev pub value_data : Metamodel → Value → Data
value_data meta (Bool b) = boolean b
value_data meta (Int n) = number (of_integer n)
value_data meta (Text s) = string s
value_data meta (Enum e l) = string (literal_name meta e l)
value_data meta (Obj o) = null

-- each value under its attribute's name; the keys of an object rise
abbrev pub attribute_members : Metamodel → Members → List AttributeValue → Members
attribute_members meta members [] = members
attribute_members meta members (t ∷ ts) =
    attribute_members meta (put (attribute_name meta t.attribute) (value_data meta t.value) members) ts

-- ---- links

-- the links that lead from an object
abbrev pub links_of : Model → ObjId → List Link
links_of g o = filter (λ link. link.source.0 == o.0) g.links

-- the names of the targets, which stand in rising number
abbrev pub target_names : Model → ℕ → List Link → List (List ℕ)
target_names g r links = map (λ link. name_of g link.target) (filter (λ link. link.reference.0 == r) links)

-- a list of names
abbrev pub texts : List (List ℕ) → Items
texts [] = no_items
texts (name ∷ names) = item (string name) (texts names)

-- a reference without a target has no key
abbrev pub with_targets : List ℕ → Items → Members → Members
with_targets key no_items members = members
with_targets key (item d ds) members = put key (array (item d ds)) members

-- an object's links by the references from the r-th on, each under the reference's name
abbrev pub link_members : Model → List Link → Members → ℕ → List RefInfo → Members
link_members g links members r [] = members
link_members g links members r (info ∷ infos) =
    link_members g links (with_targets info.name (texts (target_names g r links)) members) (r + 1) infos

-- ---- the document

-- an object with all its keys, which rise
abbrev pub object_data : Metamodel → Model → Object → Data
object_data meta g o = object
    (member (codes "attributes") (object (attribute_members meta no_members (values_of g o.number)))
    (member (codes "class") (string (class_name meta o.class))
    (member (codes "links") (object (link_members g (links_of g o.number) no_members 0 meta.references))
    (member (codes "name") (string o.name)
    (member (codes "number") (number (unsigned o.number.0))
    no_members)))))

-- the objects stand in rising number
abbrev pub objects_data : Metamodel → Model → List Object → Items
objects_data meta g [] = no_items
objects_data meta g (o ∷ os) = item (object_data meta g o) (objects_data meta g os)

-- the document with all its keys, which rise
unfoldable pub model_data : Metamodel → Model → Data
model_data meta g = object
    (member (codes "format") (number (unsigned 1))
    (member (codes "next") (number (unsigned g.next))
    (member (codes "objects") (array (objects_data meta g g.live))
    no_members)))

-- the document without a space
abbrev pub dump : Metamodel → Model → List ℕ
dump meta g = compact_text (model_data meta g)
