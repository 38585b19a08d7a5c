use Rattle.std.proofs.Common.{◌≡◌, ◌++◌, drop, flat_map}
use Rattle.vt_vql.specs.Resolving.{uses_of}
use Rattle.vt_vql.proofs.narrow.uses.Given as goal

-- what is out, and what the rest gives, is what the whole gives
abbrev pub invariant-loop-constraint : goal.invariant-loop-constraint
invariant-loop-constraint l = l.uses ++ flat_map (uses_of l.meta) (drop l.constraint-index l.constraints) ≡ flat_map (uses_of l.meta) l.constraints
