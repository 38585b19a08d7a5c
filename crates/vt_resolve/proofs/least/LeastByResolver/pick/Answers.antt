use Rattle.std.proofs.Common.{sym, ap, ◌∙◌, not}
use Rattle.std.specs.List.{find}
use Rattle.vt_resolve.specs.Choice.{is_preceded}
use Rattle.vt_resolve.specs.Entries.{by_match}
use Rattle.vt_resolve.specs.Inside.EntryLaws.{match_total, match_exact}
use Rattle.vt_resolve.specs.Inside.InOrder.{in_order}
use Rattle.vt_resolve.proofs.LeastLemmas.{least-in_order}
use Rattle.vt_resolve.proofs.least.LeastByResolver.pick.Goals as goal

-- the first in this order is the one of those held that none is before
pub returns : goal.returns
returns g c =
    let held = in_order by_match c.self.inside.held.items in
    rw (← c.self.view_is) (c.first.ensures.value
    ∙ sym (least-in_order g.O.Ranking.rank by_match g.met.O.Ranking.total g.met.O.Ranking.exact match_total match_exact c.self.inside.held.items c.first.ensures.ascends)
    ∙ sym (ap (λ R. find (λ e. not (is_preceded R held e)) held) (g.met.O.Least.orders c.self.inside.last)))
