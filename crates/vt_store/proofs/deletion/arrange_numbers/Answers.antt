use Rattle.vt_store.proofs.Deleting.Arranged.{numbers_arranged}
use Rattle.vt_store.proofs.deletion.arrange_numbers.Goals as goal

pub returns : goal.returns
returns c = numbers_arranged _ _ _ c.sort_unstable.ensures.permutation c.sort_unstable.ensures.sorted c.dedup.ensures.filtered
