use Rattle.vt_json.proofs.ShapeLemmas.{entries_step}
use Rattle.vt_model_json.proofs.document.read_members.Goals as goal

-- one more entry is read
pub loop-key-preserved : goal.loop-key-preserved
loop-key-preserved g c =
    (tt, tt, rw c.in_ok-add.ensures.added (entries_step g.T.Shape.shape c.loop-key.entries (c.in-Some.key.now, c.in-Some.value.now) c.loop-key.key-iterator c.next.new.self c.in_ok-entry.entry _ c.in-Some.ensures.steps c.loop-key.invariant.2 c.in_ok-entry.ensures))
