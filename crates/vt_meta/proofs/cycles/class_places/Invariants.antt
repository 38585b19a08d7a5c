use Rattle.std.proofs.Common.{◌≡◌, ◌++◌, drop}
use Rattle.vt_meta.specs.Inside.Above.{class_places}
use Rattle.vt_meta.proofs.cycles.class_places.Given as goal

-- what is out, and what the rest gives, is what the whole gives
abbrev pub invariant-loop-name : goal.invariant-loop-name
invariant-loop-name l = l.places ++ class_places l.resolved.document (drop l.name-index l.names) ≡ class_places l.resolved.document l.names
