use Rattle.std.proofs.Common.{◌≡◌, ◌++◌, drop, map}
use Rattle.vt_vql.proofs.narrow.pattern_names.Given as goal

-- what is out, and what the rest gives, is what the whole gives
abbrev pub invariant-loop-pattern : goal.invariant-loop-pattern
invariant-loop-pattern l = l.names ++ map (λ p. p.name) (drop l.pattern-index l.patterns) ≡ map (λ p. p.name) l.patterns
