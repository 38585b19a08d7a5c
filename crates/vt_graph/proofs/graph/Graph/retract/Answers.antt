-- The slot that is popped is the last, and its class's plan says which listings it leaves.
use Rattle.std.proofs.Common.{◌<◌, List, length, sym, ap, subst, ◌∙◌, All, IsSome}
use Rattle.vt_base.specs.declared.numbers.ClassId.{ClassId}
use Rattle.vt_graph.specs.Held.{Held, Place}
use Rattle.vt_graph.specs.Asked.{live_at}
use Rattle.vt_graph.specs.Room.{KeepsOthersRoom}
use Rattle.vt_graph.specs.Passing.{HasNoLinks, IsLast, with_retracted}
use Rattle.vt_graph.specs.Inside.Stored.{places_of}
use Rattle.vt_graph.specs.declared.plan.ClassPlan.{ClassPlan}
use Rattle.vt_graph.proofs.ListingLemmas.{above_within}
use Rattle.vt_graph.proofs.PoppedLemmas.{IsPopped, is_popped, sliced, last_planned, listings_popped}
use Rattle.vt_graph.proofs.graph.Graph.retract.Goals as goal

pub unlist-requires : goal.unlist-requires
unlist-requires c =
    let g = c.self.inside in
    let is = sliced g.slots c.pop.new.self c.pop.result c.unwrap-slot.result c.unwrap-slot.ensures c.pop.ensures in
    let planned = last_planned g.meta g.next g.plans.items g.slots c.pop.new.self c.unwrap-slot.result c.from.result c.index-plan.result.now is c.self.invariant.0 c.self.invariant.1 c.from.ensures c.index-plan.ensures in
    subst (All (λ (d : ClassId). d.0 < length g.listings.items)) (sym (c.as_slice.ensures ∙ ap (λ (p : ClassPlan). p.above) planned))
    (above_within g.meta c.unwrap-slot.result.class g.slots g.listings.items c.self.invariant.2)

-- ---- the slots without it

popped : (c : goal.Joined-slot) → IsPopped c.self.inside.meta c.self.inside.next c.args.next c.self.inside.slots c.pop.new.self c.args.o
popped c =
    let g = c.self.inside in
    is_popped g.meta g.next c.args.next g.slots c.pop.new.self c.unwrap-slot.result c.args.o
    (sliced g.slots c.pop.new.self c.pop.result c.unwrap-slot.result c.unwrap-slot.ensures c.pop.ensures) c.self.invariant.0
    (subst (λ (h : Held). IsSome (live_at h.model c.args.o)) (sym c.self.view_is) c.requires.live)
    (subst (λ (h : Held). HasNoLinks h.model c.args.o) (sym c.self.view_is) c.requires.no_links)
    (subst (λ (h : Held). IsLast h.model c.args.o c.args.next) (sym c.self.view_is) c.requires.last) c.requires.next

pub invariant_of-self : goal.invariant_of-self
invariant_of-self c =
    let g = c.self.inside in
    let is = sliced g.slots c.pop.new.self c.pop.result c.unwrap-slot.result c.unwrap-slot.ensures c.pop.ensures in
    let planned = last_planned g.meta g.next g.plans.items g.slots c.pop.new.self c.unwrap-slot.result c.from.result c.index-plan.result.now is c.self.invariant.0 c.self.invariant.1 c.from.ensures c.index-plan.ensures in (
      (popped c).indexed,
      c.self.invariant.1,
      listings_popped g.meta g.slots c.pop.new.self c.unwrap-slot.result c.index-plan.result.now c.as_slice.result.now g.listings.items c.unlist.new.listings.items is c.self.invariant.2 planned c.as_slice.ensures c.unlist.ensures,
    )

pub returns-clause-retracted : goal.returns-clause-retracted
returns-clause-retracted c = (popped c).model ∙ ap (λ (h : Held). with_retracted h.model c.args.o c.args.next) c.self.view_is

pub returns-clause-room : goal.returns-clause-room
returns-clause-room c = subst (λ (places : List Place). KeepsOthersRoom c.args.o places (places_of c.pop.new.self)) (ap (λ (h : Held). h.places) c.self.view_is) (popped c).room
