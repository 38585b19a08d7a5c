use Rattle.std.proofs.Common.{subst}
use Rattle.vt_store.specs.Inside.Kept.{CanSettle}
use Rattle.vt_store.proofs.Reverted.Settled.{retracted_room}
use Rattle.vt_store.proofs.reverting.settle.Goals as goal

-- all but the object that goes keep their room
pub returns-in-Some-clause-room : goal.returns-in-Some-clause-room
returns-in-Some-clause-room c =
    let can = subst (λ created. CanSettle c.args.graph.now c.args.next created c.args.deleted) c.in-Some.is c.requires.can in
    retracted_room c.args.graph.now c.retract.new.self c.args.next c.args.deleted c.in-Some.object can c.retract.ensures.retracted c.retract.ensures.room
