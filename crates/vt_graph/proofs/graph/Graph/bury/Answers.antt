-- The object's slot has a body, which goes; what is left is spare.
use Rattle.std.proofs.Common.{◌≡◌, List, sym, ap, subst, ◌∙◌, Some, IsSome}
use Rattle.std.specs.Option.{option_copied}
use Rattle.vt_model.specs.Metamodel.{Metamodel}
use Rattle.vt_slots.specs.Slots.{slot_at}
use Rattle.vt_base.specs.declared.numbers.RefId.{RefId}
use Rattle.vt_slots.specs.declared.slot.Side.{Side}
use Rattle.vt_slots.specs.declared.slot.Side.TheVariants.{Outgoing, Incoming}
use Rattle.vt_graph.specs.Held.{Held, Place}
use Rattle.vt_graph.specs.Asked.{live_at}
use Rattle.vt_graph.specs.Room.{KeepsOthersRoom, capacity_at, capacity_in, class_kept}
use Rattle.vt_graph.specs.Passing.{HasNoLinks, HasNoValues, with_buried}
use Rattle.vt_graph.specs.Inside.Stored.{places_of}
use Rattle.vt_graph.specs.Inside.Spare.{IsSpare}
use Rattle.vt_graph.proofs.SlotLemmas.{body_at_found}
use Rattle.vt_graph.proofs.BuriedLemmas.{live_slot, IsBuried, is_buried, there_mapped, there_some}
use Rattle.vt_graph.proofs.graph.Graph.bury.Goals as goal

pub unwrap-slot-requires : goal.unwrap-slot-requires
unwrap-slot-requires c =
    let g = c.self.inside in
    let at = live_slot g.meta g.next g.slots c.args.o c.self.invariant.0 (subst (λ (h : Held). IsSome (live_at h.model c.args.o)) (sym c.self.view_is) c.requires.live) in
    there_mapped (λ b. b.now) c.at.result at.0 (c.at.ensures ∙ at.1)

pub unwrap-body-requires : goal.unwrap-body-requires
unwrap-body-requires c =
    let g = c.self.inside in
    let at = live_slot g.meta g.next g.slots c.args.o c.self.invariant.0 (subst (λ (h : Held). IsSome (live_at h.model c.args.o)) (sym c.self.view_is) c.requires.live) in
    there_some c.take_body.result at.2.0 (c.take_body.ensures.taken ∙ body_at_found g.slots c.args.o at.0 at.1 ∙ at.2.1)

-- ---- the slots without the body

buried_inside : (c : goal.After-share-2)
    → IsBuried c.self.inside.meta c.self.inside.next c.self.inside.slots c.take_body.new.self c.args.o
    (record { number = c.unwrap-slot.result.now.number; name = c.share.result; class = c.unwrap-slot.result.now.class }) c.unwrap-body.result
buried_inside c =
    let g = c.self.inside in
    let found : slot_at g.slots c.args.o ≡ Some c.unwrap-slot.result.now = sym c.at.ensures ∙ ap option_copied c.unwrap-slot.ensures in
    is_buried g.meta g.next g.slots c.take_body.new.self c.args.o
    (record { number = c.unwrap-slot.result.now.number; name = c.share.result; class = c.unwrap-slot.result.now.class }) c.unwrap-slot.result.now c.unwrap-body.result c.self.invariant.0
    (subst (λ (h : Held). HasNoLinks h.model c.args.o) (sym c.self.view_is) c.requires.no_links)
    (subst (λ (h : Held). HasNoValues h.model c.args.o) (sym c.self.view_is) c.requires.no_values)
    found (sym (body_at_found g.slots c.args.o c.unwrap-slot.result.now found) ∙ sym c.take_body.ensures.taken ∙ c.unwrap-body.ensures) c.take_body.ensures.left
    (λ i. record { number = c.unwrap-slot.result.now.number; name = c.share.ensures i; class = c.unwrap-slot.result.now.class })

pub invariant_of-self : goal.invariant_of-self
invariant_of-self c = ((buried_inside c).indexed, c.self.invariant.1, (buried_inside c).listings c.self.inside.listings.items c.self.invariant.2)

pub invariant_of-result : goal.invariant_of-result
invariant_of-result c = subst (λ (m : Metamodel). IsSpare m c.unwrap-slot.result.now.class c.unwrap-body.result) (sym c.share-2.ensures) (buried_inside c).spare

pub returns-clause-buried : goal.returns-clause-buried
returns-clause-buried c =
    (buried_inside c).model
    ∙ ap (λ (h : Held). with_buried h.model (record { number = c.unwrap-slot.result.now.number; name = c.share.result; class = c.unwrap-slot.result.now.class })) c.self.view_is

pub returns-clause-room : goal.returns-clause-room
returns-clause-room c = subst (λ (places : List Place). KeepsOthersRoom c.args.o places (places_of c.take_body.new.self)) (ap (λ (h : Held). h.places) c.self.view_is) (buried_inside c).room

pub returns-clause-class : goal.returns-clause-class
returns-clause-class c = (buried_inside c).class

pub returns-clause-was : goal.returns-clause-was
returns-clause-was c = record {
  meta = c.share-2.ensures ∙ ap (λ (h : Held). h.meta) c.self.view_is;
  object = sym (ap (λ (h : Held). live_at h.model c.args.o) c.self.view_is) ∙ (buried_inside c).object;
  class = sym (ap (λ (h : Held). class_kept h.places c.args.o) c.self.view_is) ∙ (buried_inside c).was;
  room = own_room;
}
  where
    own_room : (side : Side) (r : RefId) → capacity_in (record { meta = c.share-2.result; object = record { number = c.unwrap-slot.result.now.number; name = c.share.result; class = c.unwrap-slot.result.now.class }; outgoing = c.unwrap-body.result.outgoing; incoming = c.unwrap-body.result.incoming }) side r ≡ capacity_at c.args.self.now.places c.args.o side r
    own_room Outgoing r = (buried_inside c).own_room Outgoing r ∙ ap (λ (h : Held). capacity_at h.places c.args.o Outgoing r) c.self.view_is
    own_room Incoming r = (buried_inside c).own_room Incoming r ∙ ap (λ (h : Held). capacity_at h.places c.args.o Incoming r) c.self.view_is
