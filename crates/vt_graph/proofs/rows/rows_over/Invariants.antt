use Rattle.std.proofs.Common.{◌≡◌, ◌+◌, ◌++◌, drop, length}
use Rattle.vt_graph.specs.Inside.Rowed.{rows_listed}
use Rattle.vt_graph.proofs.rows.rows_over.Given as goal

-- what is out, and what the rest gives, is what the whole gives; each row ticked once
abbrev pub invariant-loop-o : goal.invariant-loop-o
invariant-loop-o g l = record {
  out : l.rows.items ++ rows_listed l.slots l.of (drop l.o-index l.listing) ≡ rows_listed l.slots l.of l.listing;
  ticks : l.steps ≡ l.fn.steps + length l.rows.items;
}
