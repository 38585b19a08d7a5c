use Rattle.std.proofs.Common.{◌≡◌, drop}
use Rattle.vt_facts.specs.Names.{is_distinct}
use Rattle.vt_vql.proofs.narrow.is_distinct.Given as goal

-- the rest decides
abbrev pub invariant-loop-i : goal.invariant-loop-i
invariant-loop-i l = is_distinct (drop l.i l.names) ≡ is_distinct l.names
