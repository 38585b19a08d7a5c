use Rattle.std.proofs.lemmas.Slice.Eq.{slice_eq-Decides}
use Rattle.vt_algebra.proofs.SameLemmas.{pair_Decides}
use Rattle.vt_algebra.proofs.same.same_pairs.Goals as goal

-- pairs are equal where both numbers are
pub returns : goal.returns
returns c = slice_eq-Decides pair_Decides _ _ _ c.eq.ensures
