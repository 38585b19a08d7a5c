use Rattle.std.proofs.Common.{length, reverse}
use Rattle.vt_graph.specs.Held.{Held}
use Rattle.vt_change.specs.Leading.{LeadBack}
use Rattle.vt_change.proofs.returning.take_back.Given as goal

-- the edits that are left lead back, to where all did
abbrev pub invariant-loop-edit : goal.invariant-loop-edit
invariant-loop-edit l = record {
  some : (before : Held) × LeadBack before (reverse l.left) l.store;
  back : (before : Held) → LeadBack before (reverse l.fn.edits) l.fn.store → LeadBack before (reverse l.left) l.store;
}

-- one fewer is left
abbrev pub decreases-loop-edit : goal.decreases-loop-edit
decreases-loop-edit l = length l.left
