use Rattle.std.proofs.Common.{◌≡◌, ◌++◌, drop}
use Rattle.vt_vql.specs.Resolving.{declared_from}
use Rattle.vt_vql.proofs.resolver.declared.Given as goal

-- what is out, and what the rest gives, is what the whole gives
abbrev pub invariant-loop-i : goal.invariant-loop-i
invariant-loop-i l = l.constraints ++ declared_from l.i (drop l.i l.params) ≡ declared_from 0 l.params
