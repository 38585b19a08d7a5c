use Rattle.std.proofs.Common.{◌≡◌, ◌++◌, drop, map, Some}
use Rattle.vt_vql.proofs.scope.scope_of.Given as goal

-- what is out, and what the rest gives, is what the whole gives
abbrev pub invariant-loop-param : goal.invariant-loop-param
invariant-loop-param l = l.scope ++ map (λ p. Some p.name) (drop l.param-index l.params) ≡ map (λ p. Some p.name) l.params
