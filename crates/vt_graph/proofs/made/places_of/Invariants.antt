use Rattle.std.proofs.Common.{◌≡◌, map, take}
use Rattle.vt_graph.specs.Inside.Making.{default_place}
use Rattle.vt_graph.proofs.made.places_of.Given as goal

abbrev pub invariant-loop-plan : goal.invariant-loop-plan
invariant-loop-plan l = l.places.items ≡ map default_place (take l.plan-index l.attributes)
