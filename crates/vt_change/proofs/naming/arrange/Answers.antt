use Rattle.vt_store.proofs.Deleting.Arranged.{numbers_arranged}
use Rattle.vt_change.proofs.naming.arrange.Goals as goal

-- sorted, and without repeats
pub returns : goal.returns
returns c =
    let arranged = numbers_arranged _ _ _ c.sort_unstable.ensures.permutation c.sort_unstable.ensures.sorted c.dedup.ensures.filtered in
    record { rise = arranged.rises; among = arranged.stood; kept = arranged.kept }
