-- Valid models: what holds of each model that changes make of the empty one.
use Rattle.std.specs.Prelude.{◌≡◌, ◌<◌, ◌≤◌, ◌++◌, map, true, false, All, Contains, slice_get, IsSomeAnd, Some}
use Rattle.std.specs.List.Sorted.{IsStrictlySortedBy}
use Rattle.std.specs.declared.cmp.Ordering.{Ordering}
use Rattle.std.specs.Ordering.{nat_cmp}
use Rattle.vt_base.specs.declared.numbers.ObjId.{ObjId}
use Rattle.vt_model.specs.Metamodel.{Metamodel}
use Rattle.vt_facts.specs.Names.{is_distinct}
use Rattle.vt_model.specs.Model.{Model}
use Rattle.vt_model.specs.Creating.{is_reserved}
use Rattle.vt_model.specs.Assigning.{value_order}
use Rattle.vt_model.specs.Linking.{link_order, is_many, is_containment, link_back}
use Rattle.vt_model.specs.Containing.{IsIn}
use Rattle.vt_model.specs.Deleting.{gone_order}
use Rattle.vt_model.specs.Fits.{FitsAttribute, FitsReference, HasItsValues}
use Rattle.vt_model.specs.declared.model.Object.{Object}
use Rattle.vt_model.specs.declared.model.GoneObject.{GoneObject}
use Rattle.vt_model.specs.declared.model.Link.{Link}

-- objects by number
abbrev pub object_order : Object → Object → Ordering
object_order o p = nat_cmp o.number.0 p.number.0

-- the class is there and isn't abstract
abbrev pub IsConcrete : Metamodel → Object → Type 0
IsConcrete meta o = IsSomeAnd (slice_get meta.classes o.class.0) (λ info. info.is_abstract ≡ false)

-- a link of a reference that isn't many is the only one of its source
abbrev pub IsOnly : Metamodel → Model → Link → Type 0
IsOnly meta g link = is_many meta link.reference ≡ false
    → (other : Link) → Contains g.links other → other.source ≡ link.source → other.reference ≡ link.reference → other ≡ link

-- the opposite of a link stands too
abbrev pub HasItsOpposite : Metamodel → Model → Link → Type 0
HasItsOpposite meta g link = (back : Link) → link_back meta link ≡ Some back → Contains g.links back

-- a link of a containment is the only one that leads to its target
abbrev pub IsOnlyContainer : Metamodel → Model → Link → Type 0
IsOnlyContainer meta g link = is_containment meta link.reference ≡ true
    → (other : Link) → Contains g.links other → is_containment meta other.reference ≡ true → other.target ≡ link.target → other ≡ link

-- holds of a model under its metamodel
pub record IsValid (meta : Metamodel) (g : Model) : Type 0 where
  -- the next number is at most 1,048,576
  pub next_in_range : g.next ≤ 1048576
  -- live and deleted objects rise in number, up to below the next number, and share no number
  pub objects_rise : IsStrictlySortedBy object_order g.live
  pub gone_rise : IsStrictlySortedBy gone_order g.gone
  pub numbers_below : All (λ o. o.number.0 < g.next) g.live
  pub gone_below : All (λ o. o.number.0 < g.next) g.gone
  pub numbers_differ : (o : Object) (p : GoneObject) → Contains g.live o → Contains g.gone p → o.number ≡ p.number → ⊥
  -- no two objects, live or deleted, share a name, and a name that begins with `_` is that of the object's number
  pub names_differ : is_distinct (map (λ o. o.name) g.live ++ map (λ o. o.name) g.gone) ≡ true
  pub names_free : All (λ o. is_reserved o.name o.number.0 ≡ false) g.live
  pub gone_names_free : All (λ o. is_reserved o.name o.number.0 ≡ false) g.gone
  -- each live object's class is there and isn't abstract
  pub classes_concrete : All (IsConcrete meta) g.live
  -- values rise by object and attribute, each fits its attribute, and none is missing
  pub values_rise : IsStrictlySortedBy value_order g.values
  pub values_fit : All (FitsAttribute meta g.live) g.values
  pub values_there : All (HasItsValues meta g.values) g.live
  -- links rise by source, reference and target, and each fits its reference
  pub links_rise : IsStrictlySortedBy link_order g.links
  pub links_fit : All (FitsReference meta g.live) g.links
  -- a single reference has one target at most, and each link stands with its opposite
  pub singles : All (IsOnly meta g) g.links
  pub opposites : All (HasItsOpposite meta g) g.links
  -- an object is in one container at most, and not in itself
  pub containers : All (IsOnlyContainer meta g) g.links
  pub no_cycle : (o : ObjId) → IsIn meta g o o → ⊥
