use Rattle.std.proofs.Common.{◌≡◌, ℕ, take, nat_eq}
use Rattle.indexmap.specs.IndexMap.{get}
use Rattle.vt_model.specs.Inside.FeatureTable.{first_entry}
use Rattle.vt_model.proofs.features.features_of.Given as goal

-- the first of those that were seen
abbrev pub invariant-loop-entry : goal.invariant-loop-entry
invariant-loop-entry l = (number : ℕ) → get nat_eq l.row number ≡ first_entry l.above l.class number (take l.entry-index l.entries)
