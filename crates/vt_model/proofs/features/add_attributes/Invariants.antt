use Rattle.std.proofs.Common.{◌≡◌, ◌++◌, drop}
use Rattle.vt_model.specs.Inside.FeatureTable.{attribute_entries}
use Rattle.vt_model.proofs.features.add_attributes.Given as goal

-- what is out, and what the rest gives, is what the whole gives
abbrev pub invariant-loop-i : goal.invariant-loop-i
invariant-loop-i l = l.entries ++ attribute_entries l.names l.i (drop l.i l.attributes) ≡ l.fn.entries ++ attribute_entries l.names 0 l.attributes
