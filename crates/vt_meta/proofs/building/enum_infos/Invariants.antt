use Rattle.std.proofs.Common.{◌≡◌, ◌++◌, drop, map}
use Rattle.vt_meta.specs.Built.{enum_info}
use Rattle.vt_meta.proofs.building.enum_infos.Given as goal

-- what is out, and what the rest gives, is what the whole gives
abbrev pub invariant-loop-info : goal.invariant-loop-info
invariant-loop-info l = l.infos ++ map enum_info (drop l.info-index l.enums) ≡ map enum_info l.enums
