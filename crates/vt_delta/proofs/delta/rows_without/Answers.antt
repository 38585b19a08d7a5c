use Rattle.std.proofs.Common.{rules, ◌≡◌, sym, subst}
use Rattle.vt_base.specs.Rows.{Ascends}
use Rattle.vt_delta.specs.Changes.{without}
use Rattle.vt_delta.proofs.DeltaLemmas.{Ascends-without}
use Rattle.vt_delta.proofs.delta.rows_without.Goals as goal

-- what was kept of rows that ascend ascends
pub from_ascending-requires : goal.from_ascending-requires
from_ascending-requires c =
    let all : c.loop-row.rest.items ≡ without c.args.others.now.items c.args.rows.now.items = search rules in
    record { ascends = subst Ascends (sym all) (Ascends-without c.args.others.now.items c.args.rows.now.items c.walk-walk.ensures.ascends) }
