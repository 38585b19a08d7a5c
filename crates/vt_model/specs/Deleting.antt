-- What Delete does: an object goes with all that is in it, and with every link that touches these.
use Rattle.std.specs.Prelude.{◌||◌, List, filter, fold, not}
use Rattle.std.specs.BTreeSet.{insert_key}
use Rattle.std.specs.declared.cmp.Ordering.{Ordering}
use Rattle.std.specs.Ordering.{nat_cmp}
use Rattle.vt_base.specs.declared.numbers.ObjId.{ObjId}
use Rattle.vt_model.specs.Metamodel.{Metamodel}
use Rattle.vt_model.specs.Model.{Model}
use Rattle.vt_model.specs.Containing.{is_inside}
use Rattle.vt_model.specs.declared.model.Object.{Object}
use Rattle.vt_model.specs.declared.model.GoneObject.{GoneObject}

-- by number
abbrev pub gone_order : GoneObject → GoneObject → Ordering
gone_order a b = nat_cmp a.number.0 b.number.0

-- its number and its name stay taken
abbrev pub with_gone : List GoneObject → Object → List GoneObject
with_gone gone o = insert_key gone_order gone (record { number = o.number; name = o.name })

abbrev pub deleted : Metamodel → Model → ObjId → Model
deleted meta g o = record {
  next = g.next;
  live = filter (λ x. not (is_inside meta g x.number o)) g.live;
  gone = fold with_gone g.gone (filter (λ x. is_inside meta g x.number o) g.live);
  values = filter (λ t. not (is_inside meta g t.object o)) g.values;
  links = filter (λ link. not (is_inside meta g link.source o || is_inside meta g link.target o)) g.links;
}
