use Rattle.std.proofs.Common.{rules, ◌≡◌, sym, subst}
use Rattle.std.specs.Prelude.{◌&&◌, filter}
use Rattle.std.proofs.lemmas.List.Kept.{IsStrictlySortedBy-filter}
use Rattle.vt_base.specs.Order.{tuple_cmp}
use Rattle.vt_base.specs.Rows.{Ascends, has_row}
use Rattle.vt_history.specs.Inside.Touching.{touches}
use Rattle.vt_history.proofs.events.updated.Goals as goal

-- what was found in rows that ascend ascends
pub from_ascending-requires : goal.from_ascending-requires
from_ascending-requires c =
    let all : c.loop-row.found.items ≡ filter (λ row. touches c.args.touched.now row && has_row c.args.before.now.items row) c.args.after.now.items = search rules in
    record { ascends = subst Ascends (sym all) (IsStrictlySortedBy-filter tuple_cmp (λ row. touches c.args.touched.now row && has_row c.args.before.now.items row) c.args.after.now.items c.walk-walk.ensures.ascends) }
