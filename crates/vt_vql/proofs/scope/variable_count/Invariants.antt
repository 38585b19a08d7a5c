use Rattle.std.proofs.Common.{◌≡◌, drop}
use Rattle.vt_vql.specs.Scope.{with_constraints}
use Rattle.vt_vql.specs.Resolving.{scope_of}
use Rattle.vt_vql.proofs.scope.variable_count.Given as goal

-- the rest adds to the variables so far what the whole adds to the parameters
abbrev pub invariant-loop-constraint : goal.invariant-loop-constraint
invariant-loop-constraint l =
    with_constraints l.scope (drop l.constraint-index l.constraints) ≡ with_constraints (scope_of l.fn.params) l.fn.constraints
