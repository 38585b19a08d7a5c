-- A model: what is alive and what was deleted, with attribute values and links, as plain lists.
use Rattle.std.specs.Prelude.{ℕ, ◌&&◌, List, [], Bool, map, find, is_none, is_some, Option, option_and_then}
use Rattle.vt_base.specs.Names.{ObjectName}
use Rattle.vt_model.specs.Metamodel.{Metamodel, feature}
use Rattle.vt_facts.specs.Names.{is_name}
use Rattle.vt_model.specs.declared.metamodel.Feature.{Feature}
use Rattle.vt_model.specs.declared.model.Object.{Object}
use Rattle.vt_model.specs.declared.model.GoneObject.{GoneObject}
use Rattle.vt_model.specs.declared.model.AttributeValue.{AttributeValue}
use Rattle.vt_model.specs.declared.model.Link.{Link}

-- the number that the next object gets; the live and the deleted objects, each in rising order of
-- number; the attribute values in rising order of object and attribute; the links in rising order
-- of source, reference and target
pub record Model : Type 0 where
  pub next : ℕ
  pub live : List Object
  pub gone : List GoneObject
  pub values : List AttributeValue
  pub links : List Link

abbrev pub empty_model : Model
empty_model = record { next = 0; live = []; gone = []; values = []; links = [] }

-- ---- what names stand for

abbrev pub object_named : Model → List ℕ → Option Object
object_named g name = find (λ o. is_name o.name name) g.live

abbrev pub gone_named : Model → List ℕ → Option GoneObject
gone_named g name = find (λ o. is_name o.name name) g.gone

-- no object ever had the name
abbrev pub never_existed : Model → List ℕ → Bool
never_existed g name = is_none (object_named g name) && is_none (gone_named g name)

-- the object that had the name was deleted
abbrev pub was_deleted : Model → List ℕ → Bool
was_deleted g name = is_none (object_named g name) && is_some (gone_named g name)

-- the feature of this name that the class of a named object has
abbrev pub feature_at : Metamodel → Model → List ℕ → List ℕ → Option Feature
feature_at meta g name feature_name = option_and_then (λ o. feature meta o.class feature_name) (object_named g name)

-- ---- names

-- the names of the live objects
abbrev pub object_names : Model → List ObjectName
object_names g = map (λ o. record { object = o.number; name = o.name }) g.live
