use Rattle.std.proofs.Common.{◌≡◌, length, ◌++◌, drop}
use Rattle.vt_graph.specs.Inside.Planned.{above_from}
use Rattle.vt_graph.proofs.making.classes_above.Given as goal

abbrev pub invariant-loop-d : goal.invariant-loop-d
invariant-loop-d l = (l.d-end ≡ length l.meta.classes) × (l.above ++ above_from l.meta l.c l.d (drop l.d l.meta.classes) ≡ above_from l.meta l.c 0 l.meta.classes)
