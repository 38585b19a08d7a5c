use Rattle.std.proofs.Common.{◌≡◌, ◌↔◌, drop}
use Rattle.vt_algebra.proofs.same.+same.Given as goal

-- the operands that are left are the same exactly where all are
abbrev pub invariant-same_operands-loop-operand : goal.invariant-same_operands-loop-operand
invariant-same_operands-loop-operand l = (drop l.operand-index l.operands ≡ l.left) ↔ (l.fn.operands ≡ l.fn.others)
