use Rattle.std.proofs.Common.{length, take}
use Rattle.std.specs.List.{All}
use Rattle.vt_base.specs.Base.{Counts}
use Rattle.vt_algebra.specs.Rows.{IsOver}
use Rattle.algebra_tests.proofs.trees.plans.are_over.Given as goal

-- the leaves of the trees so far are there
abbrev pub invariant-loop-op : goal.invariant-loop-op
invariant-loop-op l =
    let counts : Counts = record { classes = length l.base.classes; attributes = length l.base.attributes; references = length l.base.references } in
    All (IsOver counts) (take l.op-index l.ops)
