use Rattle.std.proofs.Common.{◌∙◌, ap}
use Rattle.std.specs.Ordering.{is_eq}
use Rattle.vt_algebra.proofs.SameLemmas.{same_tuples}
use Rattle.vt_algebra.proofs.same.same_tuple.Goals as goal

-- what is equal in order is equal
pub returns : goal.returns
returns c = same_tuples _ _ _ (c.is_eq.ensures ∙ ap is_eq c.compare.ensures)
