use Rattle.std.proofs.Common.{rules, ◌≡◌, ◌∙◌}
use Rattle.std.specs.Prelude.{fold}
use Rattle.vt_sorted.specs.Ascending.{without_item}
use Rattle.vt_base.specs.Order.{tuple_cmp}
use Rattle.vt_delta.proofs.NetLemmas.{removed_all}
use Rattle.vt_delta.proofs.delta.remove_all.Goals as goal

-- none are to come
pub returns : goal.returns
returns c =
    let all : c.loop-row.rows.items ≡ fold (without_item tuple_cmp) c.args.rows.now.items c.args.gone.now.items = search rules in
    all ∙ removed_all c.args.gone.now.items c.args.rows.now.items
