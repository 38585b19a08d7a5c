use Rattle.std.proofs.Common.{◌≡◌, length}
use Rattle.std.specs.Prelude.{◌++◌}
use Rattle.vt_delta.specs.Changes.{without}
use Rattle.vt_delta.proofs.delta.rows_without.Given as goal

-- what was kept, and what is kept of the rows to come
abbrev pub invariant-loop-row : goal.invariant-loop-row
invariant-loop-row l = l.rest.items ++ without l.fn.others.items l.walk ≡ without l.fn.others.items l.fn.rows.items

abbrev pub decreases-loop-row : goal.decreases-loop-row
decreases-loop-row l = length l.walk
