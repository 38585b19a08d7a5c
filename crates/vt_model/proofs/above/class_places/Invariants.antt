use Rattle.std.proofs.Common.{◌≡◌, ◌++◌, drop}
use Rattle.vt_model.specs.Above.{class_places}
use Rattle.vt_model.proofs.above.class_places.Given as goal

-- what is out, and what the rest gives, is what the whole gives
abbrev pub invariant-loop-class : goal.invariant-loop-class
invariant-loop-class l = l.places ++ class_places (drop l.class-index l.classes) ≡ class_places l.classes
