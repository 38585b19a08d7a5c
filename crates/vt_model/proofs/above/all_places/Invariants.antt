use Rattle.std.proofs.Common.{◌≡◌, ◌++◌, drop}
use Rattle.vt_model.specs.Above.{places}
use Rattle.vt_model.proofs.above.all_places.Given as goal

-- what is out, and what the rest gives, is what the whole gives
abbrev pub invariant-loop-classes : goal.invariant-loop-classes
invariant-loop-classes l = l.made ++ places (drop l.classes-index l.supers) ≡ places l.supers
