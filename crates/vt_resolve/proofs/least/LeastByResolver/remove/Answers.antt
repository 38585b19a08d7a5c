use Rattle.std.proofs.Common.{sym, ◌∙◌}
use Rattle.vt_resolve.specs.Entries.{by_match}
use Rattle.vt_resolve.specs.Inside.EntryLaws.{match_total, match_exact}
use Rattle.vt_resolve.proofs.InOrderLemmas.{in_order-without_item, has-in_other}
use Rattle.vt_resolve.proofs.least.LeastByResolver.remove.Goals as goal

-- one less in this order is one less by rule and match
pub returns-clause-held : goal.returns-clause-held
returns-clause-held g c =
    rw (← c.self.view_is, c.remove_like.ensures.items)
    (in_order-without_item g.O.Ranking.rank by_match g.met.O.Ranking.total g.met.O.Ranking.exact match_total match_exact c.self.inside.held.items c.args.entry.now)

pub returns-clause-stood : goal.returns-clause-stood
returns-clause-stood g c =
    rw (← c.self.view_is) (c.remove_like.ensures.stood
    ∙ sym (has-in_other g.O.Ranking.rank by_match g.met.O.Ranking.total g.met.O.Ranking.exact match_total match_exact c.self.inside.held.items c.args.entry.now))
