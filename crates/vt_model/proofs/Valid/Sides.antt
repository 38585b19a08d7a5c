-- A valid model from two sides: its objects with their values, and its links.
use Rattle.std.specs.Prelude.{◌≡◌, ◌<◌, ◌≤◌, ◌++◌, map, true, false, All, Contains}
use Rattle.std.specs.List.Sorted.{IsStrictlySortedBy}
use Rattle.vt_base.specs.declared.numbers.ObjId.{ObjId}
use Rattle.vt_model.specs.Metamodel.{Metamodel}
use Rattle.vt_facts.specs.Names.{is_distinct}
use Rattle.vt_model.specs.Model.{Model}
use Rattle.vt_model.specs.Creating.{is_reserved}
use Rattle.vt_model.specs.Assigning.{value_order}
use Rattle.vt_model.specs.Linking.{link_order}
use Rattle.vt_model.specs.Containing.{IsIn}
use Rattle.vt_model.specs.Deleting.{gone_order}
use Rattle.vt_model.specs.Fits.{FitsAttribute, FitsReference, HasItsValues}
use Rattle.vt_model.specs.Valid.{object_order, IsConcrete, IsOnly, HasItsOpposite, IsOnlyContainer, IsValid}
use Rattle.vt_model.specs.declared.model.Object.{Object}
use Rattle.vt_model.specs.declared.model.GoneObject.{GoneObject}

-- what a valid model keeps of its objects and their values
pub record ObjectSide (meta : Metamodel) (g : Model) : Type 0 where
  pub next_in_range : g.next ≤ 1048576
  pub objects_rise : IsStrictlySortedBy object_order g.live
  pub gone_rise : IsStrictlySortedBy gone_order g.gone
  pub numbers_below : All (λ o. o.number.0 < g.next) g.live
  pub gone_below : All (λ o. o.number.0 < g.next) g.gone
  pub numbers_differ : (o : Object) (p : GoneObject) → Contains g.live o → Contains g.gone p → o.number ≡ p.number → ⊥
  pub names_differ : is_distinct (map (λ o. o.name) g.live ++ map (λ o. o.name) g.gone) ≡ true
  pub names_free : All (λ o. is_reserved o.name o.number.0 ≡ false) g.live
  pub gone_names_free : All (λ o. is_reserved o.name o.number.0 ≡ false) g.gone
  pub classes_concrete : All (IsConcrete meta) g.live
  pub values_rise : IsStrictlySortedBy value_order g.values
  pub values_fit : All (FitsAttribute meta g.live) g.values
  pub values_there : All (HasItsValues meta g.values) g.live

-- what it keeps of its links
pub record LinkSide (meta : Metamodel) (g : Model) : Type 0 where
  pub links_rise : IsStrictlySortedBy link_order g.links
  pub links_fit : All (FitsReference meta g.live) g.links
  pub singles : All (IsOnly meta g) g.links
  pub opposites : All (HasItsOpposite meta g) g.links
  pub containers : All (IsOnlyContainer meta g) g.links
  pub no_cycle : (o : ObjId) → IsIn meta g o o → ⊥

-- the two sides are all
pub IsValid-sides : (meta : Metamodel) (g : Model) → ObjectSide meta g → LinkSide meta g → IsValid meta g
IsValid-sides meta g objects links = record {
  next_in_range = objects.next_in_range;
  objects_rise = objects.objects_rise;
  gone_rise = objects.gone_rise;
  numbers_below = objects.numbers_below;
  gone_below = objects.gone_below;
  numbers_differ = objects.numbers_differ;
  names_differ = objects.names_differ;
  names_free = objects.names_free;
  gone_names_free = objects.gone_names_free;
  classes_concrete = objects.classes_concrete;
  values_rise = objects.values_rise;
  values_fit = objects.values_fit;
  values_there = objects.values_there;
  links_rise = links.links_rise;
  links_fit = links.links_fit;
  singles = links.singles;
  opposites = links.opposites;
  containers = links.containers;
  no_cycle = links.no_cycle;
}

-- the objects' side of a valid model
pub ObjectSide-valid : (meta : Metamodel) (g : Model) → IsValid meta g → ObjectSide meta g
ObjectSide-valid meta g valid = record {
  next_in_range = valid.next_in_range;
  objects_rise = valid.objects_rise;
  gone_rise = valid.gone_rise;
  numbers_below = valid.numbers_below;
  gone_below = valid.gone_below;
  numbers_differ = valid.numbers_differ;
  names_differ = valid.names_differ;
  names_free = valid.names_free;
  gone_names_free = valid.gone_names_free;
  classes_concrete = valid.classes_concrete;
  values_rise = valid.values_rise;
  values_fit = valid.values_fit;
  values_there = valid.values_there;
}

-- the links' side of a valid model
pub LinkSide-valid : (meta : Metamodel) (g : Model) → IsValid meta g → LinkSide meta g
LinkSide-valid meta g valid = record {
  links_rise = valid.links_rise;
  links_fit = valid.links_fit;
  singles = valid.singles;
  opposites = valid.opposites;
  containers = valid.containers;
  no_cycle = valid.no_cycle;
}
