use Rattle.std.proofs.Common.{◌≡◌, ◌++◌, drop, map}
use Rattle.vt_meta.specs.Inside.Above.{class_places}
use Rattle.vt_meta.proofs.cycles.all_supers.Given as goal

-- what is out, and what the rest gives, is what the whole gives
abbrev pub invariant-loop-class : goal.invariant-loop-class
invariant-loop-class l =
    l.places ++ map (λ c. class_places l.resolved.document c.supers) (drop l.class-index l.classes) ≡ map (λ c. class_places l.resolved.document c.supers) l.classes
