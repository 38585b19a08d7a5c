use Rattle.std.proofs.Common.{◌≡◌, ◌++◌, drop, map}
use Rattle.vt_model.proofs.metamodel.class_names.Given as goal

-- what is out, and what the rest gives, is what the whole gives
abbrev pub invariant-loop-class : goal.invariant-loop-class
invariant-loop-class l = l.names ++ map (λ c. c.name) (drop l.class-index l.classes) ≡ map (λ c. c.name) l.classes
