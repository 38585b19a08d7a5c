use Rattle.std.proofs.Common.{◌≡◌, ◌++◌, drop}
use Rattle.vt_model.specs.Inside.FeatureTable.{reference_entries}
use Rattle.vt_model.proofs.features.add_references.Given as goal

-- what is out, and what the rest gives, is what the whole gives
abbrev pub invariant-loop-i : goal.invariant-loop-i
invariant-loop-i l = l.entries ++ reference_entries l.names l.i (drop l.i l.references) ≡ l.fn.entries ++ reference_entries l.names 0 l.references
