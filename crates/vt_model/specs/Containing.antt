-- What contains what, directly and indirectly.
use Rattle.std.specs.Prelude.{◌≡◌, ℕ, zero, suc, ◌&&◌, ◌||◌, ◌==◌, List, [], ◌∷◌, length, find, Contains, Bool, true, false, not, Option, option_map}
use Rattle.std.specs.Option.{option_map_or}
use Rattle.vt_base.specs.declared.numbers.ObjId.{ObjId}
use Rattle.vt_model.specs.Metamodel.{Metamodel}
use Rattle.vt_model.specs.Model.{Model}
use Rattle.vt_model.specs.Linking.{is_containment, stands, oriented}
use Rattle.vt_model.specs.declared.model.Link.{Link}

-- ---- as facts

-- a link of a containment leads from the one to the other
pub record Holds (meta : Metamodel) (g : Model) (outer inner : ObjId) : Type 0 where
  pub link : Link
  pub there : Contains g.links link
  pub containment : is_containment meta link.reference ≡ true
  pub from : link.source ≡ outer
  pub to : link.target ≡ inner

-- such links lead from the one over the objects of the list to the other
abbrev pub LeadsOver : Metamodel → Model → ObjId → List ObjId → ObjId → Type 0
LeadsOver meta g outer [] inner = Holds meta g outer inner
LeadsOver meta g outer (o ∷ path) inner = Holds meta g outer o × LeadsOver meta g o path inner

-- the one is in the other, directly or indirectly
abbrev pub IsIn : Metamodel → Model → ObjId → ObjId → Type 0
IsIn meta g inner outer = (path : List ObjId) × LeadsOver meta g outer path inner

-- ---- as tests

-- what an object is in directly
abbrev pub holder : Metamodel → Model → ObjId → Option ObjId
holder meta g o = option_map (λ link. link.source) (find (λ link. link.target.0 == o.0 && is_containment meta link.reference) g.links)

-- an object is another one, or comes to it by at most so many steps to what holds it
abbrev pub is_within : Metamodel → Model → ℕ → ObjId → ObjId → Bool
is_within meta g zero o outer = o.0 == outer.0
is_within meta g (suc n) o outer = o.0 == outer.0 || option_map_or (λ h. is_within meta g n h outer) (holder meta g o) false

-- an object is another one or in it: it needs no more steps than there are live objects
abbrev pub is_inside : Metamodel → Model → ObjId → ObjId → Bool
is_inside meta g o outer = is_within meta g (length g.live) o outer

-- a new containment would put an object into itself
abbrev pub is_circular : Metamodel → Model → Link → Bool
is_circular meta g link = is_containment meta link.reference && is_inside meta g link.source link.target

-- a link that doesn't stand yet would
abbrev pub closes_cycle : Metamodel → Model → Link → Bool
closes_cycle meta g link = not (stands g link) && is_circular meta g (oriented meta link)
