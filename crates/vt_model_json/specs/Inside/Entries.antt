-- Entries by their names, and what they stand for.
use Rattle.std.specs.Prelude.{ℕ, List, [], ◌∷◌, codes}
use Rattle.serde_json.specs.Data.{Data, array, object, string, number, unsigned, Members, no_members, member}
use Rattle.vt_base.specs.declared.numbers.ObjId.{ObjId}
use Rattle.vt_base.specs.declared.numbers.ClassId.{ClassId}
use Rattle.vt_model.specs.Metamodel.{Metamodel}
use Rattle.vt_model.specs.Model.{Model}
use Rattle.vt_model_json.specs.Dump.{texts, class_name, links_of, link_members}
use Rattle.vt_model_json.specs.Inside.Shown.{shown_name, shown_names}

-- the entries as members, each with its name and what its item means
abbrev pub entry_members : {K T : Type 0} → (K → List ℕ) → (T → Data) → List (K × T) → Members
entry_members name means [] = no_members
entry_members name means (e ∷ es) = member (name e.0) (means e.1) (entry_members name means es)

-- the names of objects
abbrev pub names_data : Model → List ObjId → Data
names_data g objects = array (texts (shown_names g objects))

-- ---- the members of an object, which stand in this order after its attributes

-- from its name on
abbrev pub from_name : Model → ObjId → Members
from_name g o = member (codes "name") (string (shown_name g o)) (member (codes "number") (number (unsigned o.0)) no_members)

-- from its links on
abbrev pub from_links : Metamodel → Model → ObjId → Members
from_links meta g o = member (codes "links") (object (link_members g (links_of g o) no_members 0 meta.references)) (from_name g o)

-- from its class on
abbrev pub from_class : Metamodel → Model → ObjId → ClassId → Members
from_class meta g o class = member (codes "class") (string (class_name meta class)) (from_links meta g o)
