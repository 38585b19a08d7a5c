use Rattle.std.proofs.Common.{◌≡◌, length}
use Rattle.vt_model.specs.Inside.FeatureTable.{KeepsFirst}
use Rattle.vt_model.proofs.features.all_features.Given as goal

-- a row for each class so far
abbrev pub invariant-loop-class : goal.invariant-loop-class
invariant-loop-class l = (length l.rows ≡ l.class) × KeepsFirst l.entries l.above l.class l.rows
