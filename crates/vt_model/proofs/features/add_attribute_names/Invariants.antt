use Rattle.std.proofs.Common.{◌≡◌, ◌++◌, drop, map}
use Rattle.vt_model.proofs.features.add_attribute_names.Given as goal

-- what is out, and what the rest gives, is what the whole gives
abbrev pub invariant-loop-attribute : goal.invariant-loop-attribute
invariant-loop-attribute l = l.names ++ map (λ a. a.name) (drop l.attribute-index l.attributes) ≡ l.fn.names ++ map (λ a. a.name) l.attributes
