use Rattle.vt_delta.proofs.KeptLemmas.{changes-none}
use Rattle.vt_delta.proofs.deltas.Deltas.new.Goals as goal

-- none is kept
pub returns : goal.returns
returns c =
    changes-none c.new.result.items c.new-2.result c.new-3.result c.args.count c.new.ensures.items c.new-2.ensures.empty c.new-3.ensures
