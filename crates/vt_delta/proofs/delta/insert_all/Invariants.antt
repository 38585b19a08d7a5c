use Rattle.std.proofs.Common.{◌≡◌, length}
use Rattle.std.specs.Prelude.{fold}
use Rattle.vt_sorted.specs.Ascending.{with_item}
use Rattle.vt_base.specs.Order.{tuple_cmp}
use Rattle.vt_delta.proofs.delta.insert_all.Given as goal

-- the rows so far, with those to come
abbrev pub invariant-loop-row : goal.invariant-loop-row
invariant-loop-row l = fold (with_item tuple_cmp) l.rows.items l.walk ≡ fold (with_item tuple_cmp) l.fn.rows.items l.fn.added.items

abbrev pub decreases-loop-row : goal.decreases-loop-row
decreases-loop-row l = length l.walk
