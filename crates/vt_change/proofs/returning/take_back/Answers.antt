use Rattle.vt_change.specs.Leading.{IsReverted}
use Rattle.vt_change.proofs.LeadLemmas.{lead_popped}
use Rattle.vt_change.proofs.returning.take_back.Goals as goal

-- and those before it lead on
pub loop-edit-preserved : goal.loop-edit-preserved
loop-edit-preserved c =
    let s = c.loop-edit.store in
    let edits = c.loop-edit.left in
    let rest = c.pop.new.self in
    let left = c.revert.new.self in
    let gone : IsReverted c.in-Some.edit s left = record { meta = c.revert.ensures.meta; model = c.revert.ensures.made; room = c.revert.ensures.room } in
    record {
      some = (c.loop-edit.invariant.some.0, lead_popped c.loop-edit.invariant.some.0 s edits rest c.in-Some.edit c.in-Some.ensures c.loop-edit.invariant.some.1 left gone);
      back = λ before lead. lead_popped before s edits rest c.in-Some.edit c.in-Some.ensures (c.loop-edit.invariant.back before lead) left gone;
    }
