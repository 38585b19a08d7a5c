use Rattle.std.proofs.Common.{◌≡◌, ◌++◌, drop}
use Rattle.vt_graph.specs.Inside.Planned.{attributes_from}
use Rattle.vt_graph.proofs.making.attributes_of.Given as goal

abbrev pub invariant-loop-a : goal.invariant-loop-a
invariant-loop-a l = l.had ++ attributes_from l.meta l.c l.a (drop l.a l.fn.attributes) ≡ attributes_from l.meta l.c 0 l.fn.attributes
