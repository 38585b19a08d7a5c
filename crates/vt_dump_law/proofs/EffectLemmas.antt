-- What a change that isn't refused comes to once its names are looked up.
use Rattle.std.proofs.Common.{◌≡◌, ℕ, List, [], ◌∷◌, true, Some, refl}
use Rattle.std.specs.Prelude.{Ok}
use Rattle.vt_base.specs.declared.numbers.AttrId.{AttrId}
use Rattle.vt_base.specs.declared.numbers.RefId.{RefId}
use Rattle.vt_base.specs.declared.value.Value.{Value}
use Rattle.vt_base.specs.declared.value.Kind.{Kind}
use Rattle.vt_model.specs.Metamodel.{Metamodel, feature}
use Rattle.vt_model.specs.Model.{Model, object_named}
use Rattle.vt_model.specs.Assigning.{attribute_of, kind_asked, has_kind, value_given, with_value}
use Rattle.vt_model.specs.Linking.{reference_of, is_target, linked}
use Rattle.vt_model.specs.Containing.{closes_cycle}
use Rattle.vt_model.specs.Effect.{unless_refused, effect}
use Rattle.vt_model.specs.declared.metamodel.Feature.{Feature}
use Rattle.vt_model.specs.declared.model.Object.{Object}
use Rattle.vt_model.specs.declared.model.Link.{Link}
use Rattle.vt_model.specs.declared.change.Given.{Given}
use Rattle.vt_model.specs.declared.change.Change.TheVariants as change
use Rattle.vt_model.specs.declared.change.Refusal.TheVariants.{ContainmentCycle}
use Rattle.vt_facts.specs.Firsts.{first_of}

-- a value that is given stands in place of the old one
pub set_made : (meta : Metamodel) (g : Model) (name attr : List ℕ) (o : Object) (f : Feature)
    → object_named g name ≡ Some o → feature meta o.class attr ≡ Some f
    → (k : Kind) → kind_asked meta (Some f) ≡ Some k
    → (given : Given) (a : AttrId) (v : Value)
    → attribute_of (Some f) ≡ Some a → has_kind meta given k ≡ true → value_given meta given k ≡ Some v
    → effect meta g (change.Set name attr given) ≡ Ok (with_value g o.number a v)
set_made meta g name attr o f named has k of given a v is fits some = rw (named, has, of, is, fits, some) refl

-- a link to a target of the right class is made, unless it would close a cycle
pub link_made : (meta : Metamodel) (g : Model) (name reference target : List ℕ) (a b : Object) (f : Feature)
    → object_named g name ≡ Some a → object_named g target ≡ Some b → feature meta a.class reference ≡ Some f
    → (r : RefId) → reference_of (Some f) ≡ Some r → is_target meta (Some r) (Some b) ≡ true
    → effect meta g (change.Link name reference target) ≡
    (let link : Link = record { source = a.number; reference = r; target = b.number } in
    unless_refused (first_of ((closes_cycle meta g link, ContainmentCycle) ∷ [])) (linked meta g link))
link_made meta g name reference target a b f named other has r some right = rw (named, other, has, some, right) refl
