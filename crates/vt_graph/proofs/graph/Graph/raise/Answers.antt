-- The object's slot has no body, and gets the spare one.
use Rattle.std.proofs.Common.{◌≡◌, List, sym, ap, subst, ◌∙◌, Some}
use Rattle.std.specs.Prelude.{Contains}
use Rattle.vt_model.specs.Metamodel.{Metamodel}
use Rattle.vt_slots.specs.declared.slot.Side.TheVariants.{Outgoing, Incoming}
use Rattle.vt_graph.specs.Held.{Held, Place, Buried}
use Rattle.vt_graph.specs.Room.{KeepsRoom, capacity_at, capacity_in, class_kept}
use Rattle.vt_graph.specs.Passing.{with_raised}
use Rattle.vt_graph.specs.Inside.Stored.{model_of, places_of}
use Rattle.vt_graph.specs.Inside.Spare.{IsSpare}
use Rattle.vt_graph.proofs.BuriedLemmas.{gone_slot, IsRaised, is_raised, there_some}
use Rattle.vt_graph.proofs.graph.Graph.raise.Goals as goal

pub give_body-requires : goal.give_body-requires
give_body-requires c =
    let g = c.self.inside in
    let x = c.buried.inside.object in
    let gone : Contains (model_of g.next g.slots).gone (record { number = x.number; name = x.name }) =
    subst (λ (h : Held). Contains h.model.gone (record { number = x.number; name = x.name })) (sym c.self.view_is)
    (subst (λ (b : Buried). Contains c.args.self.now.model.gone (record { number = b.object.number; name = b.object.name })) (sym c.buried.view_is) c.requires.gone) in
    let kept : class_kept (places_of g.slots) x.number ≡ Some x.class =
    subst (λ (h : Held). class_kept h.places x.number ≡ Some x.class) (sym c.self.view_is)
    (subst (λ (b : Buried). class_kept c.args.self.now.places b.object.number ≡ Some b.object.class) (sym c.buried.view_is) c.requires.class) in
    let at = gone_slot g.meta g.next g.slots x c.self.invariant.0 gone kept in
    record { there = there_some _ at.0 at.1 }

-- ---- the slots with the body

raised_inside : (c : goal.After-drop-buried-inside) → IsRaised c.self.inside.meta c.self.inside.next c.self.inside.slots c.give_body.new.self c.buried.inside.object c.buried.inside.body
raised_inside c =
    let g = c.self.inside in
    let x = c.buried.inside.object in
    let gone : Contains (model_of g.next g.slots).gone (record { number = x.number; name = x.name }) =
    subst (λ (h : Held). Contains h.model.gone (record { number = x.number; name = x.name })) (sym c.self.view_is)
    (subst (λ (b : Buried). Contains c.args.self.now.model.gone (record { number = b.object.number; name = b.object.name })) (sym c.buried.view_is) c.requires.gone) in
    let kept : class_kept (places_of g.slots) x.number ≡ Some x.class =
    subst (λ (h : Held). class_kept h.places x.number ≡ Some x.class) (sym c.self.view_is)
    (subst (λ (b : Buried). class_kept c.args.self.now.places b.object.number ≡ Some b.object.class) (sym c.buried.view_is) c.requires.class) in
    let of : c.buried.inside.meta ≡ g.meta = ap (λ (b : Buried). b.meta) c.buried.view_is ∙ c.requires.of_meta ∙ sym (ap (λ (h : Held). h.meta) c.self.view_is) in
    is_raised g.meta g.next g.slots c.give_body.new.self x c.buried.inside.body c.self.invariant.0 gone kept
    (subst (λ (m : Metamodel). IsSpare m x.class c.buried.inside.body) of c.buried.invariant) c.give_body.ensures

pub invariant_of-self : goal.invariant_of-self
invariant_of-self c = ((raised_inside c).indexed, c.self.invariant.1, (raised_inside c).listings c.self.inside.listings.items c.self.invariant.2)

pub returns-clause-raised : goal.returns-clause-raised
returns-clause-raised c =
    (raised_inside c).model ∙ ap (λ (h : Held). with_raised h.model c.buried.inside.object) c.self.view_is
    ∙ ap (λ (b : Buried). with_raised c.args.self.now.model b.object) c.buried.view_is

pub returns-clause-own_room : goal.returns-clause-own_room
returns-clause-own_room c Outgoing r = subst (λ (b : Buried). capacity_at (places_of c.give_body.new.self) b.object.number Outgoing r ≡ capacity_in b Outgoing r) c.buried.view_is ((raised_inside c).own_room Outgoing r)
returns-clause-own_room c Incoming r = subst (λ (b : Buried). capacity_at (places_of c.give_body.new.self) b.object.number Incoming r ≡ capacity_in b Incoming r) c.buried.view_is ((raised_inside c).own_room Incoming r)

pub returns-clause-room : goal.returns-clause-room
returns-clause-room c = subst (λ (places : List Place). KeepsRoom places (places_of c.give_body.new.self)) (ap (λ (h : Held). h.places) c.self.view_is) (raised_inside c).room
