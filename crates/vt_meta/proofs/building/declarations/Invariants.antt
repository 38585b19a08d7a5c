use Rattle.std.proofs.Common.{◌≡◌, ◌++◌, drop}
use Rattle.vt_meta.specs.Inside.Building.{declarations_from}
use Rattle.vt_meta.proofs.building.declarations.Given as goal

-- what is out, and what the rest gives, is what the whole gives
abbrev pub invariant-loop-i : goal.invariant-loop-i
invariant-loop-i l = l.declarations ++ declarations_from l.i (drop l.i l.classes) ≡ declarations_from 0 l.classes
