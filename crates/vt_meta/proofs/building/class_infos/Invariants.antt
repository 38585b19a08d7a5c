use Rattle.std.proofs.Common.{◌≡◌, ◌++◌, drop, map}
use Rattle.vt_meta.specs.Built.{class_info}
use Rattle.vt_meta.proofs.building.class_infos.Given as goal

-- what is out, and what the rest gives, is what the whole gives
abbrev pub invariant-loop-class : goal.invariant-loop-class
invariant-loop-class l = l.infos ++ map class_info (drop l.class-index l.classes) ≡ map class_info l.classes
