use Rattle.std.proofs.Common.{◌≡◌, true}
use Rattle.vt_vql.specs.Resolving.{each_stands}
use Rattle.vt_vql.proofs.narrow.each_stands.Given as goal

-- each so far does
abbrev pub invariant-loop-variable : goal.invariant-loop-variable
invariant-loop-variable l = each_stands l.variable l.uses ≡ true
