use Rattle.std.proofs.Common.{length}
use Rattle.vt_graph.proofs.made.+list.Given as goal

abbrev pub decreases-list : goal.decreases-list
decreases-list l = length l.classes.now
