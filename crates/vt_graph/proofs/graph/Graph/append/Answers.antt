-- The new object's slot has the body of its class's plan; where the listings fail, the slot is taken back.
use Rattle.std.proofs.Common.{◌≡◌, ◌+◌, ◌<◌, ◌≤◌, List, length, map, false, sym, ap, subst, ◌∙◌, All}
use Rattle.std.proofs.lemmas.Result.{on_err_weaker}
use Rattle.vt_base.specs.declared.numbers.ClassId.{ClassId}
use Rattle.vt_model.specs.Creating.{is_taken, created}
use Rattle.vt_slots.specs.Values.{AttributesRise}
use Rattle.vt_slots.specs.Slots.{slot_named}
use Rattle.vt_graph.specs.Held.{Held, Place}
use Rattle.vt_graph.specs.Room.{KeepsRoom, class_kept}
use Rattle.vt_graph.specs.Inside.Stored.{model_of, places_of}
use Rattle.vt_graph.specs.Inside.Planned.{plan_of, AreListings}
use Rattle.vt_graph.specs.Inside.Indexed.{IsIndexed}
use Rattle.vt_graph.specs.Inside.Making.{default_place, changed_at, with_last}
use Rattle.vt_graph.specs.declared.plan.ClassPlan.{ClassPlan}
use Rattle.vt_graph.specs.declared.plan.AttributePlan.{AttributePlan}
use Rattle.vt_graph.proofs.PushedLemmas.{new_values_rise, name_is_free, pushed, new_slot, indexed_pushed, model_pushed, room_pushed, class_pushed}
use Rattle.vt_graph.proofs.ListingLemmas.{above_within, are_listings_pushed}
use Rattle.vt_graph.proofs.AppendLemmas.{plan_found, pushed_is, popped_back, at_err, at_ok, same_room}
use Rattle.vt_graph.proofs.graph.Graph.append.Goals as goal

pub new_body-requires : goal.new_body-requires
new_body-requires c =
    let g = c.self.inside in
    let there : c.args.class.0 < length g.meta.classes = subst (λ (h : Held). c.args.class.0 < length h.meta.classes) (sym c.self.view_is) c.requires.there in
    let planned = plan_found g.meta g.plans.items c.args.class c.from.result c.index-plan.result.now c.self.invariant.1 there c.from.ensures c.index-plan.ensures in
    subst (λ (attributes : List AttributePlan). AttributesRise (map default_place attributes))
    (sym (c.as_slice.ensures ∙ ap (λ (p : ClassPlan). p.attributes) planned)) (new_values_rise g.meta c.args.class)

pub push-requires-clause-fresh : goal.push-requires-clause-fresh
push-requires-clause-fresh c =
    let g = c.self.inside in
    let free = subst (λ (h : Held). is_taken h.model c.args.name.now ≡ false) (sym c.self.view_is) c.requires.fresh.free in
    ap (slot_named g.slots) c.share.ensures ∙ name_is_free g.next g.slots c.args.name.now g.meta c.self.invariant.0 free

pub list-listed-requires : goal.list-listed-requires
list-listed-requires c =
    let g = c.self.inside in
    let there : c.args.class.0 < length g.meta.classes = subst (λ (h : Held). c.args.class.0 < length h.meta.classes) (sym c.self.view_is) c.requires.there in
    let planned = plan_found g.meta g.plans.items c.args.class c.from.result c.index-plan.result.now c.self.invariant.1 there c.from.ensures c.index-plan.ensures in
    subst (All (λ (d : ClassId). d.0 < length g.listings.items)) (sym (c.as_slice-2.ensures ∙ ap (λ (p : ClassPlan). p.above) planned))
    (above_within g.meta c.args.class g.slots g.listings.items c.self.invariant.2)

pub invariant_of-self-then-is_err : goal.invariant_of-self-then-is_err
invariant_of-self-then-is_err c =
    let g = c.self.inside in
    let back = popped_back g.slots c.push.new.self c.pop.new.self _ c.pop.result c.in_ok-push.ensures.added c.pop.ensures in
    let same = at_err c.list-listed.result (sym c.if-is_err.ensures.value) c.list-listed.ensures.unchanged in (
      subst (IsIndexed g.meta g.next) (sym back) c.self.invariant.0,
      c.self.invariant.1,
      subst (AreListings g.meta c.pop.new.self) (sym same) (subst (λ slots. AreListings g.meta slots g.listings.items) (sym back) c.self.invariant.2),
    )

pub returns-then-is_err-clause-unchanged : goal.returns-then-is_err-clause-unchanged
returns-then-is_err-clause-unchanged c =
    let g = c.self.inside in
    let back = popped_back g.slots c.push.new.self c.pop.new.self _ c.pop.result c.in_ok-push.ensures.added c.pop.ensures in
    on_err_weaker c.list-listed.result (λ same. ap (model_of g.next) back ∙ ap (λ (h : Held). h.model) c.self.view_is) c.list-listed.ensures.unchanged

pub returns-then-is_err-clause-room : goal.returns-then-is_err-clause-room
returns-then-is_err-clause-room c =
    let g = c.self.inside in
    let back = popped_back g.slots c.push.new.self c.pop.new.self _ c.pop.result c.in_ok-push.ensures.added c.pop.ensures in
    same_room c.args.self.now.places (places_of c.pop.new.self) (ap places_of back ∙ ap (λ (h : Held). h.places) c.self.view_is)

-- ---- the slots with the new one

there_inside : (c : goal.After-self-1) → c.args.class.0 < length c.self.inside.meta.classes
there_inside c = subst (λ (h : Held). c.args.class.0 < length h.meta.classes) (sym c.self.view_is) c.requires.there

above_inside : (c : goal.After-self-1) → c.self.inside.next ≤ c.args.number
above_inside c = subst (λ (h : Held). h.model.next ≤ c.args.number) (sym c.self.view_is) c.requires.fresh.above

planned_inside : (c : goal.After-self-1) → c.index-plan.result.now ≡ plan_of c.self.inside.meta c.args.class
planned_inside c = plan_found c.self.inside.meta c.self.inside.plans.items c.args.class c.from.result c.index-plan.result.now c.self.invariant.1 (there_inside c) c.from.ensures c.index-plan.ensures

pushed_inside : (c : goal.After-self-1) → c.push.new.self ≡ pushed c.self.inside.meta c.self.inside.next c.self.inside.slots c.args.name.now c.args.class c.args.number
pushed_inside c =
    let g = c.self.inside in
    pushed_is g.meta g.next g.slots c.args.name.now c.share.result c.args.class c.args.number c.in_ok-body.body c.as_slice.result.now c.index-plan.result.now c.push.new.self
    c.share.ensures (planned_inside c) c.as_slice.ensures c.in_ok-body.ensures c.in_ok-push.ensures.added

pub invariant_of-self-2 : goal.invariant_of-self-2
invariant_of-self-2 c =
    let g = c.self.inside in
    let free = subst (λ (h : Held). is_taken h.model c.args.name.now ≡ false) (sym c.self.view_is) c.requires.fresh.free in
    let listed = at_ok c.list-listed.result (sym c.if-is_err.ensures.value) c.list-listed.ensures.listed in (
      subst (IsIndexed g.meta (c.args.number + 1)) (sym (pushed_inside c))
          (indexed_pushed g.meta g.next g.slots c.args.name.now c.args.class c.args.number c.self.invariant.0 (above_inside c) (there_inside c) c.requires.fresh.small free),
      c.self.invariant.1,
      subst (λ slots. AreListings g.meta slots c.list-listed.new.listings.items) (sym (pushed_inside c))
          (subst (AreListings g.meta (pushed g.meta g.next g.slots c.args.name.now c.args.class c.args.number))
          (sym (listed ∙ ap (λ above. changed_at (with_last (record { 0 = c.args.number })) above g.listings.items) (c.as_slice-2.ensures ∙ ap (λ (p : ClassPlan). p.above) (planned_inside c))))
          (are_listings_pushed g.meta g.slots (new_slot g.meta g.next g.slots c.args.name.now c.args.class c.args.number) g.listings.items c.self.invariant.2)),
    )

pub returns-clause-added : goal.returns-clause-added
returns-clause-added c =
    let g = c.self.inside in
    ap (model_of (c.args.number + 1)) (pushed_inside c)
    ∙ model_pushed g.meta g.next g.slots c.args.name.now c.args.class c.args.number c.self.invariant.0 (above_inside c)
    ∙ ap (λ (h : Held). created h.meta h.model c.args.name.now c.args.class c.args.number) c.self.view_is

pub returns-clause-room : goal.returns-clause-room
returns-clause-room c =
    let g = c.self.inside in
    subst (λ slots. KeepsRoom c.args.self.now.places (places_of slots)) (sym (pushed_inside c))
    (subst (λ (places : List Place). KeepsRoom places (places_of (pushed g.meta g.next g.slots c.args.name.now c.args.class c.args.number))) (ap (λ (h : Held). h.places) c.self.view_is)
    (room_pushed g.meta g.next g.slots c.args.name.now c.args.class c.args.number c.self.invariant.0 (above_inside c)))

pub returns-clause-class : goal.returns-clause-class
returns-clause-class c =
    let g = c.self.inside in
    ap (λ slots. class_kept (places_of slots) (record { 0 = c.args.number })) (pushed_inside c)
    ∙ class_pushed g.meta g.next g.slots c.args.name.now c.args.class c.args.number c.self.invariant.0 (above_inside c)
