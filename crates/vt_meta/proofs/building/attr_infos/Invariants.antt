use Rattle.std.proofs.Common.{◌≡◌, ◌++◌, drop, map}
use Rattle.vt_meta.specs.Built.{attributes_from, attr_info}
use Rattle.vt_meta.proofs.building.attr_infos.Given as goal

-- what is out, and what the rest gives, is what the whole gives
abbrev pub invariant-loop-i : goal.invariant-loop-i
invariant-loop-i l =
    l.infos ++ map (attr_info l.resolved.document) (attributes_from l.i (drop l.i l.classes)) ≡ map (attr_info l.resolved.document) (attributes_from 0 l.classes)
