use Rattle.std.proofs.Common.{◌≡◌, take}
use Rattle.vt_text.proofs.copy.+copy.Given as goal

-- the copies so far are the operands so far
abbrev pub invariant-copy_operands-loop-operand : goal.invariant-copy_operands-loop-operand
invariant-copy_operands-loop-operand l = l.copies.items ≡ take l.operand-index l.operands
