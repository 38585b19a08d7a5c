-- A model as the rows of its classes, attributes and references.
use Rattle.std.specs.Prelude.{◌==◌, List, [], ◌∷◌, map, filter, length}
use Rattle.vt_base.specs.Base.{Counts, BaseRows}
use Rattle.vt_base.specs.declared.numbers.ClassId.{ClassId}
use Rattle.vt_base.specs.declared.numbers.AttrId.{AttrId}
use Rattle.vt_base.specs.declared.numbers.RefId.{RefId}
use Rattle.vt_base.specs.declared.value.Value.{Value}
use Rattle.vt_base.specs.declared.value.Value.TheVariants.{Obj}
use Rattle.vt_model.specs.Metamodel.{Metamodel, isa}
use Rattle.vt_model.specs.Model.{Model}

-- the objects of a class and of the classes below it
abbrev pub class_rows : Metamodel → Model → ClassId → List (List Value)
class_rows meta g c = map (λ o. Obj o.number ∷ []) (filter (λ o. isa meta o.class c) g.live)

-- the objects that have a value for an attribute, each with it
abbrev pub attribute_rows : Model → AttrId → List (List Value)
attribute_rows g a = map (λ t. Obj t.object ∷ t.value ∷ []) (filter (λ t. t.attribute.0 == a.0) g.values)

-- the links of a reference, source and target
abbrev pub reference_rows : Model → RefId → List (List Value)
reference_rows g r = map (λ link. Obj link.source ∷ Obj link.target ∷ []) (filter (λ link. link.reference.0 == r.0) g.links)

-- how many classes, attributes and references a metamodel has
abbrev pub counts_of : Metamodel → Counts
counts_of meta = record { classes = length meta.classes; attributes = length meta.attributes; references = length meta.references }

-- the rows of a model
abbrev pub base_of : Metamodel → Model → BaseRows
base_of meta g = record {
  counts = counts_of meta;
  of_class = class_rows meta g;
  of_attribute = attribute_rows g;
  of_reference = reference_rows g;
}
