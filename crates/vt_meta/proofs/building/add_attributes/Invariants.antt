use Rattle.std.proofs.Common.{◌≡◌, ◌++◌, drop, map}
use Rattle.vt_meta.specs.Built.{declared_by, attr_info}
use Rattle.vt_meta.proofs.building.add_attributes.Given as goal

-- what is out, and what the rest gives, is what the whole gives
abbrev pub invariant-loop-attribute : goal.invariant-loop-attribute
invariant-loop-attribute l =
    l.infos ++ map (attr_info l.resolved.document) (declared_by l.class.0 (drop l.attribute-index l.attributes)) ≡ l.fn.infos ++ map (attr_info l.resolved.document) (declared_by l.class.0 l.attributes)
