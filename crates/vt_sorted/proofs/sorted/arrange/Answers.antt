use Rattle.vt_sorted.proofs.SetLemmas.{set_of_sorted}
use Rattle.vt_sorted.proofs.sorted.arrange.Goals as goal

-- the items were sorted, and then each repeat was left out
pub returns : goal.returns
returns g c = set_of_sorted g.T.Ord.cmp g.met.T.Ord.total g.T.PartialEq.eq g.met.T.Ord.matches_eq _ _ _ c.in_ok-sort.ensures.permutation c.in_ok-sort.ensures.sorted c.dedup.ensures.filtered
