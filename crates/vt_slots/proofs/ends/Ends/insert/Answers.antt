use Rattle.std.proofs.Common.{◌≡◌, ◌≤◌, ◌<◌, [], length, get_or, arith, sym, ap, subst, ◌∙◌}
use Rattle.std.specs.BTreeSet.{insert_key}
use Rattle.std.proofs.lemmas.List.Elements.{All-set}
use Rattle.std.proofs.lemmas.Result.{on_ok_weaker, on_err_weaker}
use Rattle.vt_base.proofs.RowsLemmas.{ascends-none}
use Rattle.vt_slots.specs.Ends.{EndList, number_order, ObjectsRise, objects_of, capacity_of}
use Rattle.vt_slots.specs.Inside.Place.{StandsAt, GoesAt}
use Rattle.vt_slots.proofs.EndsLemmas.{reference_number, rise_with_object, objects_stand, capacity_stands, references_rise_changed, AddsEnd_changed, SameEnds_changed, KeepsRoom_changed, no_capacity, references_rise_put, AddsEnd_put, KeepsRoom_put, All_put}
use Rattle.vt_slots.proofs.ends.Ends.insert.Goals as goal

-- ---- the reference has a list

pub invariant_of-self : goal.invariant_of-self
invariant_of-self c =
    let there = subst (λ lists. StandsAt reference_number c.args.r.0 lists c.in-Ok.i) c.as_slice.ensures.value c.in-Ok.ensures in
    let same = c.insert.ensures.reference ∙ ap (λ (l : EndList). l.reference) c.index_mut.ensures.value in (
      references_rise_changed _ c.args.r c.in-Ok.i there c.insert.new.self c.index_mut.result.now same c.self.invariant.0,
      All-set (λ (l : EndList). ObjectsRise l.objects) _ c.in-Ok.i c.insert.new.self c.insert.ensures.rises c.self.invariant.1,
      All-set (λ (l : EndList). length l.objects ≤ l.capacity) _ c.in-Ok.i c.insert.new.self c.insert.ensures.fits c.self.invariant.2,
    )

pub returns-in-Ok-clause-added : goal.returns-in-Ok-clause-added
returns-in-Ok-clause-added c =
    let there = subst (λ lists. StandsAt reference_number c.args.r.0 lists c.in-Ok.i) c.as_slice.ensures.value c.in-Ok.ensures in
    let same = c.insert.ensures.reference ∙ ap (λ (l : EndList). l.reference) c.index_mut.ensures.value in
    rw (← c.self.view_is) (on_ok_weaker c.insert.result
    (λ added. AddsEnd_changed _ c.args.r c.in-Ok.i there c.insert.new.self c.index_mut.result.now same c.args.o
    (added ∙ ap (λ (l : EndList). insert_key number_order l.objects c.args.o) c.index_mut.ensures.value))
    c.insert.ensures.added)

pub returns-in-Ok-clause-unchanged : goal.returns-in-Ok-clause-unchanged
returns-in-Ok-clause-unchanged c =
    let there = subst (λ lists. StandsAt reference_number c.args.r.0 lists c.in-Ok.i) c.as_slice.ensures.value c.in-Ok.ensures in
    let same = c.insert.ensures.reference ∙ ap (λ (l : EndList). l.reference) c.index_mut.ensures.value in
    rw (← c.self.view_is) (on_err_weaker c.insert.result
    (λ unchanged. SameEnds_changed _ c.args.r c.in-Ok.i there c.insert.new.self c.index_mut.result.now same (unchanged ∙ ap (λ (l : EndList). l.objects) c.index_mut.ensures.value))
    c.insert.ensures.unchanged)

pub returns-in-Ok-clause-room : goal.returns-in-Ok-clause-room
returns-in-Ok-clause-room c =
    let there = subst (λ lists. StandsAt reference_number c.args.r.0 lists c.in-Ok.i) c.as_slice.ensures.value c.in-Ok.ensures in
    let same = c.insert.ensures.reference ∙ ap (λ (l : EndList). l.reference) c.index_mut.ensures.value in
    let room = subst (λ (l : EndList). l.capacity ≤ c.insert.new.self.capacity) c.index_mut.ensures.value c.insert.ensures.room in
    rw (← c.self.view_is) (KeepsRoom_changed _ c.args.r c.in-Ok.i there c.insert.new.self c.index_mut.result.now same room)

pub returns-in-Ok-clause-succeeds : goal.returns-in-Ok-clause-succeeds
returns-in-Ok-clause-succeeds c fits =
    let there = subst (λ lists. StandsAt reference_number c.args.r.0 lists c.in-Ok.i) (c.as_slice.ensures.value ∙ c.self.view_is) c.in-Ok.ensures in
    let list : get_or c.args.self.now c.in-Ok.i c.index_mut.result.now ≡ c.index_mut.result.now = sym (c.index_mut.ensures.value ∙ ap (λ lists. get_or lists c.in-Ok.i c.index_mut.result.now) c.self.view_is) in
    let objects : objects_of c.args.self.now c.args.r ≡ c.index_mut.result.now.objects = objects_stand _ c.args.r c.in-Ok.i there c.index_mut.result.now ∙ ap (λ (l : EndList). l.objects) list in
    let capacity : capacity_of c.args.self.now c.args.r ≡ c.index_mut.result.now.capacity = capacity_stands _ c.args.r c.in-Ok.i there c.index_mut.result.now ∙ ap (λ (l : EndList). l.capacity) list in
    c.insert.ensures.succeeds (subst (λ room. length c.index_mut.result.now.objects < room) capacity (subst (λ objects. length objects < capacity_of c.args.self.now c.args.r) objects fits))

pub returns-in-Ok-clause-references_rise : goal.returns-in-Ok-clause-references_rise
returns-in-Ok-clause-references_rise c =
    let there = subst (λ lists. StandsAt reference_number c.args.r.0 lists c.in-Ok.i) c.as_slice.ensures.value c.in-Ok.ensures in
    let same = c.insert.ensures.reference ∙ ap (λ (l : EndList). l.reference) c.index_mut.ensures.value in
    references_rise_changed _ c.args.r c.in-Ok.i there c.insert.new.self c.index_mut.result.now same c.self.invariant.0

-- ---- the reference has none

pub returns-in_err-list-in-Err-clause-succeeds : goal.returns-in_err-list-in-Err-clause-succeeds
returns-in_err-list-in-Err-clause-succeeds c fits =
    let out = subst (λ lists. GoesAt reference_number c.args.r.0 lists c.in-Err.i) (c.as_slice.ensures.value ∙ c.self.view_is) c.in-Err.ensures in
    let none : capacity_of c.args.self.now c.args.r ≡ 0 = no_capacity _ c.args.r c.in-Err.i out in
    absurd (omega (arith, none, fits))

pub returns-in_err-insert-in-Err-clause-succeeds : goal.returns-in_err-insert-in-Err-clause-succeeds
returns-in_err-insert-in-Err-clause-succeeds c fits =
    let out = subst (λ lists. GoesAt reference_number c.args.r.0 lists c.in-Err.i) (c.as_slice.ensures.value ∙ c.self.view_is) c.in-Err.ensures in
    let none : capacity_of c.args.self.now c.args.r ≡ 0 = no_capacity _ c.args.r c.in-Err.i out in
    absurd (omega (arith, none, fits))

pub invariant_of-self-in-Err : goal.invariant_of-self-in-Err
invariant_of-self-in-Err c =
    let out = subst (λ lists. GoesAt reference_number c.args.r.0 lists c.in-Err.i) c.as_slice.ensures.value c.in-Err.ensures in
    let list = c.in_ok-list-in-Err.list in
    let is = c.in_ok-list-in-Err.ensures.reference in
    rw c.in_ok-insert-in-Err.ensures.items (
      references_rise_put _ c.args.r c.in-Err.i out list is c.self.invariant.0,
      All_put _ c.args.r c.in-Err.i out list is (λ (l : EndList). ObjectsRise l.objects) (subst ObjectsRise (sym c.in_ok-list-in-Err.ensures.objects) (rise_with_object [] c.args.o (ascends-none number_order))) c.self.invariant.1,
      All_put _ c.args.r c.in-Err.i out list is (λ (l : EndList). length l.objects ≤ l.capacity) (subst (λ objects. length objects ≤ list.capacity) (sym c.in_ok-list-in-Err.ensures.objects) c.in_ok-list-in-Err.ensures.room) c.self.invariant.2,
    )

pub returns-in_ok-insert-in-Err-clause-added : goal.returns-in_ok-insert-in-Err-clause-added
returns-in_ok-insert-in-Err-clause-added c =
    let out = subst (λ lists. GoesAt reference_number c.args.r.0 lists c.in-Err.i) c.as_slice.ensures.value c.in-Err.ensures in
    rw (c.in_ok-insert-in-Err.ensures.items, ← c.self.view_is) (AddsEnd_put _ c.args.r c.in-Err.i out c.in_ok-list-in-Err.list c.in_ok-list-in-Err.ensures.reference c.args.o c.in_ok-list-in-Err.ensures.objects)

pub returns-in_ok-insert-in-Err-clause-room : goal.returns-in_ok-insert-in-Err-clause-room
returns-in_ok-insert-in-Err-clause-room c =
    let out = subst (λ lists. GoesAt reference_number c.args.r.0 lists c.in-Err.i) c.as_slice.ensures.value c.in-Err.ensures in
    rw (c.in_ok-insert-in-Err.ensures.items, ← c.self.view_is) (KeepsRoom_put _ c.args.r c.in-Err.i out c.in_ok-list-in-Err.list c.in_ok-list-in-Err.ensures.reference)

pub returns-in_ok-insert-in-Err-clause-references_rise : goal.returns-in_ok-insert-in-Err-clause-references_rise
returns-in_ok-insert-in-Err-clause-references_rise c =
    let out = subst (λ lists. GoesAt reference_number c.args.r.0 lists c.in-Err.i) c.as_slice.ensures.value c.in-Err.ensures in
    rw c.in_ok-insert-in-Err.ensures.items (references_rise_put _ c.args.r c.in-Err.i out c.in_ok-list-in-Err.list c.in_ok-list-in-Err.ensures.reference c.self.invariant.0)
