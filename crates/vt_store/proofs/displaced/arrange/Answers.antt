use Rattle.vt_store.proofs.Linking.Arranged.{arranged_sorted}
use Rattle.vt_store.proofs.displaced.arrange.Goals as goal

pub returns : goal.returns
returns c = arranged_sorted _ _ _ c.sort_unstable.ensures.permutation c.sort_unstable.ensures.sorted c.dedup.ensures.filtered
