use Rattle.std.proofs.Common.{◌≡◌, ◌++◌, drop, map}
use Rattle.vt_meta.specs.Built.{references_from, ref_info}
use Rattle.vt_meta.proofs.building.ref_infos.Given as goal

-- what is out, and what the rest gives, is what the whole gives
abbrev pub invariant-loop-i : goal.invariant-loop-i
invariant-loop-i l =
    l.infos ++ map (ref_info l.resolved.document) (references_from l.i (drop l.i l.classes)) ≡ map (ref_info l.resolved.document) (references_from 0 l.classes)
