use Rattle.std.proofs.Common.{◌≡◌, length}
use Rattle.vt_graph.specs.Inside.Planned.{plan_of}
use Rattle.vt_graph.proofs.PlanLemmas.{HasEach}
use Rattle.vt_graph.proofs.making.plans_of.Given as goal

abbrev pub invariant-loop-c : goal.invariant-loop-c
invariant-loop-c l = (l.c-end ≡ length l.meta.classes) × HasEach (plan_of l.meta) l.plans.items l.c
