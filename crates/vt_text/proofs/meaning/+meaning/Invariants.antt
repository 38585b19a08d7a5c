use Rattle.std.proofs.Common.{◌≡◌, drop}
use Rattle.vt_facts.specs.Parts.{with_front}
use Rattle.vt_text.specs.Inside.Trees.{operand_exprs}
use Rattle.vt_text.proofs.meaning.+meaning.Given as goal

-- the operands so far stand before those of what is left
abbrev pub invariant-operands-loop-tree : goal.invariant-operands-loop-tree
invariant-operands-loop-tree g l =
    with_front l.operands.items (operand_exprs (g.N.Names.enums l.names) l.slots (drop l.tree-index l.trees)) ≡ operand_exprs (g.N.Names.enums l.fn.names) l.fn.slots l.fn.trees
