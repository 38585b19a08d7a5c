use Rattle.std.proofs.Common.{rules}
use Rattle.vt_sorted.proofs.PieceLemmas.{joined-push}
use Rattle.vt_sorted.proofs.large.flatten.Goals as goal

pub loop-chunk-preserved : goal.loop-chunk-preserved
loop-chunk-preserved g c = search (rules, joined-push)
