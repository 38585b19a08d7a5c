-- What is listed of a model: the rows of a class, of an attribute, of a reference.
use Rattle.std.specs.Prelude.{◌<◌, List, All, length}
use Rattle.vt_base.specs.declared.value.Value.{Value}
use Rattle.vt_model.specs.Metamodel.{Metamodel}
use Rattle.vt_model.specs.Model.{Model}
use Rattle.vt_model.specs.Base.{class_rows, attribute_rows, reference_rows}
use Rattle.vt_model.specs.Fits.{FitsReference}
use Rattle.vt_graph.specs.declared.rows.Listed.{Listed}
use Rattle.vt_graph.specs.declared.rows.Listed.TheVariants.{Class, Attribute, Reference}

abbrev pub rows_of : Metamodel → Model → Listed → List (List Value)
rows_of meta g (Class c) = class_rows meta g c
rows_of meta g (Attribute a) = attribute_rows g a
rows_of meta g (Reference r) = reference_rows g r

-- it is there, and of a reference each link fits
abbrev pub CanList : Metamodel → Model → Listed → Type 0
CanList meta g (Class c) = c.0 < length meta.classes
CanList meta g (Attribute a) = a.0 < length meta.attributes
CanList meta g (Reference r) = (r.0 < length meta.references) × All (FitsReference meta g.live) g.links
