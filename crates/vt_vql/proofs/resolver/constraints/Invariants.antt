use Rattle.std.proofs.Common.{◌≡◌, ◌+◌, ◌*◌, ◌^◌, ◌<◌, drop, length}
use Rattle.vt_vql.specs.Scope.{with_constraints}
use Rattle.vt_vql.specs.Resolving.{constraints_from}
use Rattle.vt_facts.specs.Parts.{with_front}
use Rattle.vt_vql.proofs.resolver.constraints.Given as goal

-- what is out, and what the rest gives over the variables so far, is what the whole gives; and
-- there is room for the numbers of the variables of the rest
abbrev pub invariant-loop-tree : goal.invariant-loop-tree
invariant-loop-tree l =
    (with_front l.all (constraints_from l.meta l.scope (drop l.tree-index l.trees)) ≡ with_front l.fn.before (constraints_from l.fn.meta l.fn.scope l.fn.trees))
    × (with_constraints l.scope (drop l.tree-index l.trees) ≡ with_constraints l.fn.scope l.fn.trees)
    × (length l.scope + 2 * length (drop l.tree-index l.trees) + 2 < 2 ^ 16)
