use Rattle.std.proofs.Common.{rules, append_assoc}
use Rattle.vt_text.specs.declared.tree.ExprTree.TheViews.{the_lemmas}
use Rattle.vt_text.proofs.TreeLemmas.{reads_boxed, reads_rows}
use Rattle.vt_text.proofs.slots.+reads.Goals as goal

-- the operands are those of the chain
pub add_reads-returns-in_ok-add_reads-in-Chain : goal.add_reads-returns-in_ok-add_reads-in-Chain
add_reads-returns-in_ok-add_reads-in-Chain t c = search (rules, the_lemmas, reads_rows, reads_boxed, append_assoc)
