-- The names of all objects tell the name of each.
use Rattle.std.proofs.Common.{◌≡◌, List, [], ◌∷◌, ◌++◌, map, refl, cond, true, false}
use Rattle.std.specs.Prelude.{◌==◌, find, Some, option_map}
use Rattle.vt_base.specs.Names.{ObjectName, object_name}
use Rattle.vt_base.specs.declared.numbers.ObjId.{ObjId}
use Rattle.vt_model.specs.Model.{Model}
use Rattle.vt_model.specs.declared.model.Object.{Object}
use Rattle.vt_model.specs.declared.model.GoneObject.{GoneObject}
use Rattle.vt_graph.specs.Asked.{all_names, name_at, or_gone}

-- what a live object is called, and what a deleted one is
abbrev called : Object → ObjectName
called x = record { object = x.number; name = x.name }

abbrev gone_called : GoneObject → ObjectName
gone_called x = record { object = x.number; name = x.name }

gone_named_at : (gone : List GoneObject) (o : ObjId) → object_name (map gone_called gone) o ≡ option_map (λ (x : GoneObject). x.name) (find (λ x. x.number.0 == o.0) gone)
gone_named_at [] o = refl
gone_named_at (x ∷ gone) o = elim (x.number.0 == o.0) as (λ b.
    option_map (λ (n : ObjectName). n.name) (cond b (Some (gone_called x)) (find (λ n. n.object.0 == o.0) (map gone_called gone)))
    ≡ option_map (λ (y : GoneObject). y.name) (cond b (Some x) (find (λ y. y.number.0 == o.0) gone))) [
      | true ↦ refl
      | false ↦ gone_named_at gone o
    ]

named_at : (live : List Object) (gone : List GoneObject) (o : ObjId)
    → object_name (map called live ++ map gone_called gone) o ≡ or_gone (find (λ x. x.number.0 == o.0) live) (find (λ x. x.number.0 == o.0) gone)
named_at [] gone o = gone_named_at gone o
named_at (x ∷ live) gone o = elim (x.number.0 == o.0) as (λ b.
    option_map (λ (n : ObjectName). n.name) (cond b (Some (called x)) (find (λ n. n.object.0 == o.0) (map called live ++ map gone_called gone)))
    ≡ or_gone (cond b (Some x) (find (λ y. y.number.0 == o.0) live)) (find (λ y. y.number.0 == o.0) gone)) [
      | true ↦ refl
      | false ↦ named_at live gone o
    ]

pub object_name_at : (g : Model) (o : ObjId) → object_name (all_names g) o ≡ name_at g o
object_name_at g o = named_at g.live g.gone o
