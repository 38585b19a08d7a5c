use Rattle.vt_sorted.proofs.FrontLemmas.{place_of_end}
use Rattle.vt_sorted.proofs.large.place.Goals as goal

-- the front of all items up to this one ends where the item has its place
pub returns : goal.returns
returns g c = place_of_end g.T.Ord.cmp g.met.T.Ord.total (g.K.Like.stands_for c.args.key.now) c.args.chunks.now c.end_place.result c.requires.ascends c.requires.filled c.end_place.ensures
