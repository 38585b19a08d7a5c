use Rattle.std.proofs.Common.{◌≡◌, reverse, fold, sym, ap, subst, ◌∙◌, ◌++◌}
use Rattle.std.specs.Prelude.{All}
use Rattle.vt_graph.specs.Having.{HasAttribute}
use Rattle.vt_graph.specs.Room.{HasRoom}
use Rattle.vt_store.specs.Edits.{undone}
use Rattle.vt_store.specs.Undoing.{HeldEdit, KeepsRoomOf, Fits}
use Rattle.vt_store.specs.Inside.Assigned.{without_values, with_values}
use Rattle.vt_store.specs.Inside.Displaced.{EndsLive, IsReturning, without_link, with_each}
use Rattle.vt_store.proofs.Reverted.Run.{run_take, run_settle, run_put, run_return, run_live, run_room, run_made, run_kept}
use Rattle.vt_store.proofs.reverting.revert.Goals as goal

-- what goes are values of attributes that their objects have
pub take_values-requires : goal.take_values-requires
take_values-requires c =
    let s = c.args.graph.now in
    let e = c.edit.inside in
    let fits = subst (λ (d : HeldEdit). Fits d s) (sym c.edit.view_is) c.requires.fits in
    let fresh = c.edit.invariant in
    let one = c.drop_back.new.graph in
    let one_is = c.drop_back.ensures.dropped ∙ ap (λ ls. fold without_link s.model (reverse ls)) c.as_slice.ensures in
    record {
      had = subst (All (λ t. HasAttribute one.meta one.model t.object t.attribute)) (sym c.as_slice-2.ensures) (run_take s e.meta e.next e.created e.deleted _ _ fits c.requires.valid fresh.0 fresh.1 one c.drop_back.ensures.meta one_is c.drop_back.ensures.room);
    }

-- what became of objects can be taken back
pub settle-requires : goal.settle-requires
settle-requires c =
    let s = c.args.graph.now in
    let e = c.edit.inside in
    let fits = subst (λ (d : HeldEdit). Fits d s) (sym c.edit.view_is) c.requires.fits in
    let fresh = c.edit.invariant in
    let one = c.drop_back.new.graph in
    let one_is = c.drop_back.ensures.dropped ∙ ap (λ ls. fold without_link s.model (reverse ls)) c.as_slice.ensures in
    let two = c.take_values.new.graph in
    let two_is = c.take_values.ensures.taken ∙ ap (without_values one.model) c.as_slice-2.ensures in
    record { can = run_settle s e.meta e.next e.created e.deleted _ _ fits c.requires.valid fresh.0 fresh.1 one c.drop_back.ensures.meta one_is c.drop_back.ensures.room two c.take_values.ensures.meta two_is c.take_values.ensures.places }

-- what comes are values of attributes that their objects have
pub put_values-requires : goal.put_values-requires
put_values-requires c =
    let s = c.args.graph.now in
    let e = c.edit.inside in
    let fits = subst (λ (d : HeldEdit). Fits d s) (sym c.edit.view_is) c.requires.fits in
    let fresh = c.edit.invariant in
    let one = c.drop_back.new.graph in
    let one_is = c.drop_back.ensures.dropped ∙ ap (λ ls. fold without_link s.model (reverse ls)) c.as_slice.ensures in
    let two = c.take_values.new.graph in
    let two_is = c.take_values.ensures.taken ∙ ap (without_values one.model) c.as_slice-2.ensures in
    let three = c.settle.new.graph in
    record {
      had = subst (All (λ t. HasAttribute three.meta three.model t.object t.attribute)) (sym c.as_slice-3.ensures) (run_put s e.meta e.next e.created e.deleted _ _ fits c.requires.valid fresh.0 fresh.1 one c.drop_back.ensures.meta one_is c.drop_back.ensures.room two c.take_values.ensures.meta two_is c.take_values.ensures.places three c.settle.ensures.meta c.settle.ensures.settled c.settle.ensures.room);
    }

-- the links that come rise, and none stands
pub put_links-requires-clause-returning : goal.put_links-requires-clause-returning
put_links-requires-clause-returning c =
    let s = c.args.graph.now in
    let e = c.edit.inside in
    let fits = subst (λ (d : HeldEdit). Fits d s) (sym c.edit.view_is) c.requires.fits in
    let fresh = c.edit.invariant in
    let one = c.drop_back.new.graph in
    let one_is = c.drop_back.ensures.dropped ∙ ap (λ ls. fold without_link s.model (reverse ls)) c.as_slice.ensures in
    let two = c.take_values.new.graph in
    let two_is = c.take_values.ensures.taken ∙ ap (without_values one.model) c.as_slice-2.ensures in
    let three = c.settle.new.graph in
    let four = c.put_values.new.graph in
    let four_is = c.put_values.ensures.put ∙ ap (with_values three.model) c.as_slice-3.ensures in
    subst (λ ls. IsReturning (with_each four.model ls) four.model ls) (sym c.as_slice-4.ensures) (run_return s e.meta e.next e.created e.deleted _ _ fits c.requires.valid fresh.0 fresh.1 one c.drop_back.ensures.meta one_is c.drop_back.ensures.room two c.take_values.ensures.meta two_is c.take_values.ensures.places three c.settle.ensures.meta c.settle.ensures.settled c.settle.ensures.room four four_is c.put_values.ensures.places)

-- their ends are live
pub put_links-requires-clause-live : goal.put_links-requires-clause-live
put_links-requires-clause-live c =
    let s = c.args.graph.now in
    let e = c.edit.inside in
    let fits = subst (λ (d : HeldEdit). Fits d s) (sym c.edit.view_is) c.requires.fits in
    let fresh = c.edit.invariant in
    let one = c.drop_back.new.graph in
    let one_is = c.drop_back.ensures.dropped ∙ ap (λ ls. fold without_link s.model (reverse ls)) c.as_slice.ensures in
    let two = c.take_values.new.graph in
    let two_is = c.take_values.ensures.taken ∙ ap (without_values one.model) c.as_slice-2.ensures in
    let three = c.settle.new.graph in
    let four = c.put_values.new.graph in
    let four_is = c.put_values.ensures.put ∙ ap (with_values three.model) c.as_slice-3.ensures in
    subst (All (EndsLive four.model)) (sym c.as_slice-4.ensures) (run_live s e.meta e.next e.created e.deleted _ _ fits c.requires.valid fresh.0 fresh.1 one c.drop_back.ensures.meta one_is c.drop_back.ensures.room two c.take_values.ensures.meta two_is c.take_values.ensures.places three c.settle.ensures.meta c.settle.ensures.settled c.settle.ensures.room four four_is c.put_values.ensures.places)

-- and there is room for them
pub put_links-requires-clause-room : goal.put_links-requires-clause-room
put_links-requires-clause-room c =
    let s = c.args.graph.now in
    let e = c.edit.inside in
    let fits = subst (λ (d : HeldEdit). Fits d s) (sym c.edit.view_is) c.requires.fits in
    let fresh = c.edit.invariant in
    let one = c.drop_back.new.graph in
    let one_is = c.drop_back.ensures.dropped ∙ ap (λ ls. fold without_link s.model (reverse ls)) c.as_slice.ensures in
    let two = c.take_values.new.graph in
    let two_is = c.take_values.ensures.taken ∙ ap (without_values one.model) c.as_slice-2.ensures in
    let three = c.settle.new.graph in
    let four = c.put_values.new.graph in
    let four_is = c.put_values.ensures.put ∙ ap (with_values three.model) c.as_slice-3.ensures in
    subst (λ ls. HasRoom four.places (with_each four.model ls)) (sym c.as_slice-4.ensures) (run_room s e.meta e.next e.created e.deleted _ _ fits c.requires.valid fresh.0 fresh.1 one c.drop_back.ensures.meta one_is c.drop_back.ensures.room two c.take_values.ensures.meta two_is c.take_values.ensures.places three c.settle.ensures.meta c.settle.ensures.settled c.settle.ensures.room four four_is c.put_values.ensures.places)

-- all is as without the edit
pub returns-clause-made : goal.returns-clause-made
returns-clause-made c =
    let s = c.args.graph.now in
    let e = c.edit.inside in
    let fits = subst (λ (d : HeldEdit). Fits d s) (sym c.edit.view_is) c.requires.fits in
    let fresh = c.edit.invariant in
    let one = c.drop_back.new.graph in
    let one_is = c.drop_back.ensures.dropped ∙ ap (λ ls. fold without_link s.model (reverse ls)) c.as_slice.ensures in
    let two = c.take_values.new.graph in
    let two_is = c.take_values.ensures.taken ∙ ap (without_values one.model) c.as_slice-2.ensures in
    let three = c.settle.new.graph in
    let four = c.put_values.new.graph in
    let four_is = c.put_values.ensures.put ∙ ap (with_values three.model) c.as_slice-3.ensures in
    let five = c.put_links.new.graph in
    let five_is = c.put_links.ensures.put ∙ ap (with_each four.model) c.as_slice-4.ensures in
    subst (λ (d : HeldEdit). five.model ≡ undone d.edit s.model) c.edit.view_is (run_made s e.meta e.next e.created e.deleted _ _ fits c.requires.valid fresh.0 fresh.1 one c.drop_back.ensures.meta one_is c.drop_back.ensures.room two c.take_values.ensures.meta two_is c.take_values.ensures.places three c.settle.ensures.meta c.settle.ensures.settled c.settle.ensures.room four four_is c.put_values.ensures.places five five_is c.put_links.ensures.room)

-- no room is lost
pub returns-clause-room : goal.returns-clause-room
returns-clause-room c =
    let s = c.args.graph.now in
    let e = c.edit.inside in
    let fits = subst (λ (d : HeldEdit). Fits d s) (sym c.edit.view_is) c.requires.fits in
    let fresh = c.edit.invariant in
    let one = c.drop_back.new.graph in
    let one_is = c.drop_back.ensures.dropped ∙ ap (λ ls. fold without_link s.model (reverse ls)) c.as_slice.ensures in
    let two = c.take_values.new.graph in
    let two_is = c.take_values.ensures.taken ∙ ap (without_values one.model) c.as_slice-2.ensures in
    let three = c.settle.new.graph in
    let four = c.put_values.new.graph in
    let four_is = c.put_values.ensures.put ∙ ap (with_values three.model) c.as_slice-3.ensures in
    let five = c.put_links.new.graph in
    let five_is = c.put_links.ensures.put ∙ ap (with_each four.model) c.as_slice-4.ensures in
    subst (λ (d : HeldEdit). KeepsRoomOf five.model (d.waiting ++ s.places) five.places) c.edit.view_is (run_kept s e.meta e.next e.created e.deleted _ _ fits c.requires.valid fresh.0 fresh.1 one c.drop_back.ensures.meta one_is c.drop_back.ensures.room two c.take_values.ensures.meta two_is c.take_values.ensures.places three c.settle.ensures.meta c.settle.ensures.settled c.settle.ensures.room four four_is c.put_values.ensures.places five five_is c.put_links.ensures.room)
