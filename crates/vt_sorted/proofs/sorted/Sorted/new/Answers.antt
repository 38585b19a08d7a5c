use Rattle.std.proofs.Common.{arith, subst, sym}
use Rattle.std.specs.List.Sorted.{IsStrictlySortedBy}
use Rattle.vt_sorted.proofs.AscendingLemmas.{sorted_none}
use Rattle.vt_sorted.proofs.sorted.Sorted.new.Goals as goal

pub invariant_of-result : goal.invariant_of-result
invariant_of-result g c = (subst (IsStrictlySortedBy g.T.Ord.cmp) (sym c.new.ensures.items) (sorted_none g.T.Ord.cmp), omega arith)
