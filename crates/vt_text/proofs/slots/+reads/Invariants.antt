use Rattle.std.proofs.Common.{◌≡◌, ◌++◌, drop}
use Rattle.vt_text.specs.Inside.Trees.{operand_reads}
use Rattle.vt_text.proofs.slots.+reads.Given as goal

-- what is there, and what is left to read, is what there was and what all read
abbrev pub invariant-add_operand_reads-loop-operand : goal.invariant-add_operand_reads-loop-operand
invariant-add_operand_reads-loop-operand l = l.slots ++ operand_reads (drop l.operand-index l.operands) ≡ l.fn.slots ++ operand_reads l.fn.operands
