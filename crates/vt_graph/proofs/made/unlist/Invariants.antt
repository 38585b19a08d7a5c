use Rattle.std.proofs.Common.{◌≡◌, drop, length}
use Rattle.vt_graph.specs.Inside.Making.{changed_at, without_last}
use Rattle.vt_graph.proofs.made.unlist.Given as goal

abbrev pub invariant-loop-c : goal.invariant-loop-c
invariant-loop-c l = (length l.listings.items ≡ length l.fn.listings.items)
    × (changed_at without_last (drop l.c-index l.classes) l.listings.items ≡ changed_at without_last l.fn.classes l.fn.listings.items)
