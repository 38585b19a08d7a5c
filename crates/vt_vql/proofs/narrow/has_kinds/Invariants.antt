use Rattle.std.proofs.Common.{◌≡◌, drop}
use Rattle.std.specs.List.{list_all}
use Rattle.vt_vql.specs.Resolving.{has_known_uses}
use Rattle.vt_vql.proofs.narrow.has_kinds.Given as goal

-- the rest decides
abbrev pub invariant-loop-body : goal.invariant-loop-body
invariant-loop-body l = list_all (has_known_uses l.meta) (drop l.body-index l.pattern.bodies) ≡ list_all (has_known_uses l.meta) l.pattern.bodies
