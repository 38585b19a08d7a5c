-- What a live object has by its class.
use Rattle.std.specs.Prelude.{◌≡◌, true, slice_get, Some}
use Rattle.vt_base.specs.declared.numbers.ObjId.{ObjId}
use Rattle.vt_base.specs.declared.numbers.ClassId.{ClassId}
use Rattle.vt_base.specs.declared.numbers.AttrId.{AttrId}
use Rattle.vt_model.specs.Metamodel.{Metamodel, isa}
use Rattle.vt_model.specs.Model.{Model}
use Rattle.vt_model.specs.declared.metamodel.AttrInfo.{AttrInfo}
use Rattle.vt_graph.specs.Asked.{class_at}

-- the object is live, and its class has the attribute
pub record HasAttribute (meta : Metamodel) (g : Model) (o : ObjId) (a : AttrId) : Type 0 where
  pub class : ClassId
  pub info : AttrInfo
  pub live : class_at g o ≡ Some class
  pub declared : slice_get meta.attributes a.0 ≡ Some info
  pub has : isa meta class info.class ≡ true
