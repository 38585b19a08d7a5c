use Rattle.std.proofs.Common.{◌≡◌, ◌+◌, ◌++◌, drop, length}
use Rattle.vt_graph.specs.Inside.Rowed.{target_rows}
use Rattle.vt_graph.proofs.rows.add_targets.Given as goal

-- what is out, and what the rest gives, is what the whole gives; each row ticks once
abbrev pub invariant-loop-target : goal.invariant-loop-target
invariant-loop-target g l = record {
  out : l.rows.items ++ target_rows l.o (drop l.target-index l.targets) ≡ l.fn.rows.items ++ target_rows l.o l.targets;
  ticks : l.steps + length (target_rows l.o (drop l.target-index l.targets)) ≡ l.fn.steps + length (target_rows l.o l.targets);
}
