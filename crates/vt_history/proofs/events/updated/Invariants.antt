use Rattle.std.proofs.Common.{◌≡◌, length}
use Rattle.std.specs.Prelude.{◌++◌, ◌&&◌, filter}
use Rattle.vt_base.specs.Rows.{has_row}
use Rattle.vt_history.specs.Inside.Touching.{touches}
use Rattle.vt_history.proofs.events.updated.Given as goal

-- what was found, and what is found among the rows to come
abbrev pub invariant-loop-row : goal.invariant-loop-row
invariant-loop-row l =
    l.found.items ++ filter (λ row. touches l.fn.touched row && has_row l.fn.before.items row) l.walk
    ≡ filter (λ row. touches l.fn.touched row && has_row l.fn.before.items row) l.fn.after.items

abbrev pub decreases-loop-row : goal.decreases-loop-row
decreases-loop-row l = length l.walk
