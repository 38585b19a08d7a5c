use Rattle.vt_resolve.specs.Entries.{by_match}
use Rattle.vt_resolve.specs.Inside.EntryLaws.{match_total, match_exact}
use Rattle.vt_resolve.proofs.InOrderLemmas.{in_order-with_item}
use Rattle.vt_resolve.proofs.least.LeastByResolver.add.Goals as goal

-- an entry more in this order is one more by rule and match
pub returns-clause-held : goal.returns-clause-held
returns-clause-held g c =
    rw (← c.self.view_is, c.in_ok-put.ensures.items)
    (in_order-with_item g.O.Ranking.rank by_match g.met.O.Ranking.total g.met.O.Ranking.exact match_total match_exact c.self.inside.held.items c.args.entry)
