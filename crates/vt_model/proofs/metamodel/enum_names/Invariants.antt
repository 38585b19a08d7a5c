use Rattle.std.proofs.Common.{◌≡◌, ◌++◌, drop, map}
use Rattle.vt_model.proofs.metamodel.enum_names.Given as goal

-- what is out, and what the rest gives, is what the whole gives
abbrev pub invariant-loop-info : goal.invariant-loop-info
invariant-loop-info l = l.names ++ map (λ e. e.name) (drop l.info-index l.enums) ≡ map (λ e. e.name) l.enums
