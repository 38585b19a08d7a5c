use Rattle.std.proofs.Common.{◌≡◌, length}
use Rattle.vt_graph.proofs.PlanLemmas.{HasEach, no_objects}
use Rattle.vt_graph.proofs.making.empty_listings.Given as goal

abbrev pub invariant-loop : goal.invariant-loop
invariant-loop l = (l.end ≡ length l.meta.classes) × HasEach no_objects l.listings.items l.counter
