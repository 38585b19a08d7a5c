use Rattle.std.proofs.Common.{◌≡◌, ◌++◌, drop, map}
use Rattle.vt_meta.specs.Built.{declared_by}
use Rattle.vt_meta.specs.Inside.Building.{declaration}
use Rattle.vt_meta.proofs.building.add_declarations.Given as goal

-- what is out, and what the rest gives, is what the whole gives
abbrev pub invariant-loop-reference : goal.invariant-loop-reference
invariant-loop-reference l =
    l.declarations ++ map declaration (declared_by l.class.0 (drop l.reference-index l.references)) ≡ l.fn.declarations ++ map declaration (declared_by l.class.0 l.references)
