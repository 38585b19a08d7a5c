-- What holds of each metamodel.
use Rattle.std.specs.Prelude.{◌≡◌, ◌≢◌, ◌<◌, length, slice_get, All, false, true, Some}
use Rattle.vt_base.specs.declared.numbers.AttrId.{AttrId}
use Rattle.vt_base.specs.declared.numbers.ClassId.{ClassId}
use Rattle.vt_base.specs.declared.numbers.RefId.{RefId}
use Rattle.vt_base.specs.declared.value.Kind.{Kind}
use Rattle.vt_base.specs.declared.value.Kind.TheVariants.{Int, Bool, Text, Enum, Obj}
use Rattle.vt_model.specs.Metamodel.{Metamodel, feature_names}
use Rattle.vt_facts.specs.Names.{is_distinct}
use Rattle.vt_model.specs.Assigning.{is_literal}
use Rattle.vt_model.specs.declared.metamodel.AttrInfo.{AttrInfo}
use Rattle.vt_model.specs.declared.metamodel.RefInfo.{RefInfo}

-- a kind of attributes: no object, and an enum that is there has a first literal
abbrev pub IsAttributeKind : Metamodel → Kind → Type 0
IsAttributeKind meta Int = Unit {0}
IsAttributeKind meta Bool = Unit {0}
IsAttributeKind meta Text = Unit {0}
IsAttributeKind meta (Enum e) = is_literal meta e 0 ≡ true
IsAttributeKind meta Obj = ⊥

-- the other reference leads back, and names the first as its opposite
pub record Answers (meta : Metamodel) (r : RefId) (info : RefInfo) (s : RefId) : Type 0 where
  pub other : RefInfo
  pub declared : slice_get meta.references s.0 ≡ Some other
  pub differs : s ≢ r
  pub back : other.opposite ≡ Some r
  pub from : other.class ≡ info.target
  pub to : other.target ≡ info.class
  -- what contains is led back from to one object at most, and contained by nothing of that kind
  pub contained : info.containment ≡ true → (other.containment ≡ false) × (other.many ≡ false)

-- the class is there
abbrev pub IsClass : Metamodel → ClassId → Type 0
IsClass meta c = c.0 < length meta.classes

-- holds of each metamodel
pub record IsSound (meta : Metamodel) : Type 0 where
  -- each class has a list of supertypes, which are classes that are there
  pub one_list : length meta.supers ≡ length meta.classes
  pub supers : All (All (IsClass meta)) meta.supers
  -- so are the classes that declare features, and those that references lead to
  pub owners : All (λ (a : AttrInfo). IsClass meta a.class) meta.attributes
  pub sources : All (λ (r : RefInfo). IsClass meta r.class) meta.references
  pub targets : All (λ (r : RefInfo). IsClass meta r.target) meta.references
  -- each attribute has a kind of attributes, each opposite answers, and a class's features have different names
  pub kinds : (a : AttrId) (info : AttrInfo) → slice_get meta.attributes a.0 ≡ Some info → IsAttributeKind meta info.kind
  pub opposites : (r s : RefId) (info : RefInfo) → slice_get meta.references r.0 ≡ Some info → info.opposite ≡ Some s → Answers meta r info s
  pub features : (c : ClassId) → c.0 < length meta.classes → is_distinct (feature_names meta c) ≡ true
