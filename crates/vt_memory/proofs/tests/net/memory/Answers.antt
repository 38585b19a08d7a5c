use Rattle.std.proofs.Common.{[], fold, ap, ◌∙◌}
use Rattle.vt_sorted.specs.Ascending.{with_item}
use Rattle.vt_base.specs.Order.{tuple_cmp}
use Rattle.vt_memory.proofs.TestLemmas.{put_in_all}
use Rattle.vt_memory.proofs.tests.net.memory.Goals as goal

pub loop-row-init : goal.loop-row-init
loop-row-init g c =
    ap (λ rows. fold (with_item tuple_cmp) rows c.walk-walk.result) c.in_ok-memory.ensures.rows
    ∙ ap (fold (with_item tuple_cmp) []) c.walk-walk.ensures.items
    ∙ put_in_all c.args.rows.now.items c.walk-walk.ensures.ascends
