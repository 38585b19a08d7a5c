-- Values and links that fit a metamodel, where these objects are live.
use Rattle.std.specs.Prelude.{◌≡◌, ℕ, List, true, slice_get, All, Contains, count_by, IsSome, Some}
use Rattle.vt_base.specs.declared.numbers.ObjId.{ObjId}
use Rattle.vt_base.specs.declared.numbers.ClassId.{ClassId}
use Rattle.vt_base.specs.declared.numbers.AttrId.{AttrId}
use Rattle.vt_base.specs.declared.value.Value.{Value}
use Rattle.vt_base.specs.declared.value.Value.TheVariants as value
use Rattle.vt_base.specs.declared.value.Kind.{Kind}
use Rattle.vt_base.specs.declared.value.Kind.TheVariants as kind
use Rattle.vt_model.specs.Metamodel.{Metamodel, isa}
use Rattle.vt_model.specs.Model.{Model}
use Rattle.vt_model.specs.Creating.{default_value}
use Rattle.vt_model.specs.Assigning.{is_literal, is_value_of}
use Rattle.vt_model.specs.Storable.{IsStorable}
use Rattle.vt_model.specs.declared.metamodel.AttrInfo.{AttrInfo}
use Rattle.vt_model.specs.declared.metamodel.RefInfo.{RefInfo}
use Rattle.vt_model.specs.declared.model.Object.{Object}
use Rattle.vt_model.specs.declared.model.AttributeValue.{AttributeValue}
use Rattle.vt_model.specs.declared.model.Link.{Link}

-- the kind that a value has
abbrev pub kind_of : Value → Kind
kind_of (value.Bool b) = kind.Bool
kind_of (value.Int n) = kind.Int
kind_of (value.Text s) = kind.Text
kind_of (value.Enum e l) = kind.Enum e
kind_of (value.Obj o) = kind.Obj

-- the value has the kind, and a literal is one that its enum has
abbrev pub HasKind : Metamodel → Kind → Value → Type 0
HasKind meta k (value.Enum e l) = (k ≡ kind.Enum e) × (is_literal meta e l ≡ true)
HasKind meta k v = k ≡ kind_of v

-- an object with this number and of this class is live
pub record IsLive (live : List Object) (o : ObjId) (c : ClassId) : Type 0 where
  pub name : List ℕ
  pub there : Contains live (record { number = o; name = name; class = c })

-- an object with this number is live, and is of the class or of one below it
pub record IsLiveOf (meta : Metamodel) (live : List Object) (o : ObjId) (c : ClassId) : Type 0 where
  pub own : ClassId
  pub is_live : IsLive live o own
  pub below : isa meta own c ≡ true

-- the object is live and has the attribute, and the value has the attribute's kind and can be held
pub record FitsAttribute (meta : Metamodel) (live : List Object) (t : AttributeValue) : Type 0 where
  pub info : AttrInfo
  pub declared : slice_get meta.attributes t.attribute.0 ≡ Some info
  pub owner : IsLiveOf meta live t.object info.class
  pub kind : HasKind meta info.kind t.value
  pub storable : IsStorable t.value

-- both ends are live, the source has the reference, and the target is of the class that it leads to
pub record FitsReference (meta : Metamodel) (live : List Object) (link : Link) : Type 0 where
  pub info : RefInfo
  pub declared : slice_get meta.references link.reference.0 ≡ Some info
  pub source : IsLiveOf meta live link.source info.class
  pub target : IsLiveOf meta live link.target info.target

-- for each attribute that it has whose kind has a default, the object has one value
abbrev pub HasItsValues : Metamodel → List AttributeValue → Object → Type 0
HasItsValues meta values o = (a : AttrId) (info : AttrInfo) → slice_get meta.attributes a.0 ≡ Some info
    → isa meta o.class info.class ≡ true → IsSome (default_value info.kind) → count_by (is_value_of o.number a) values ≡ 1

-- each value fits its attribute, and each link its reference
pub record AllFit (meta : Metamodel) (g : Model) : Type 0 where
  pub values : All (FitsAttribute meta g.live) g.values
  pub links : All (FitsReference meta g.live) g.links
