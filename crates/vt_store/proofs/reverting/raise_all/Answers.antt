use Rattle.std.proofs.Common.{sym, ap, subst, ◌∙◌}
use Rattle.vt_graph.specs.Room.{KeepsRoom}
use Rattle.vt_store.specs.Inside.Kept.{raised_back, CanRaise}
use Rattle.vt_store.proofs.Linking.Anew.{KeepsRoom-then}
use Rattle.vt_store.proofs.Reverted.Raised.{raised_back_push, last_kept, can_raise_rest, places_with, room_push}
use Rattle.vt_store.proofs.reverting.raise_all.Goals as goal

-- the last of those that wait comes back
pub loop-buried-preserved : goal.loop-buried-preserved
loop-buried-preserved c =
    let old = c.loop-buried.graph in
    let new = c.raise.new.self in
    let rest = c.pop.new.self in
    let last = c.in-Some.buried in
    let can = subst (CanRaise old) c.in-Some.ensures c.loop-buried.invariant.can in
    let raise = c.raise.ensures in
    record {
      can = can_raise_rest old rest last can new raise.meta raise.raised raise.room;
      meta = raise.meta ∙ c.loop-buried.invariant.meta;
      raised = ap (λ g. raised_back g rest) raise.raised ∙ sym (raised_back_push old.model rest last) ∙ ap (raised_back old.model) (sym c.in-Some.ensures) ∙ c.loop-buried.invariant.raised;
      room = KeepsRoom-then _ _ _ c.loop-buried.invariant.room
          (subst (λ waiting. KeepsRoom (places_with waiting old.places) (places_with rest new.places)) (sym c.in-Some.ensures)
          (room_push rest last old.places new.places raise.room (last_kept old rest last can) raise.own_room));
    }
