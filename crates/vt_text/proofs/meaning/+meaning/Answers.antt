use Rattle.std.proofs.Common.{rules}
use Rattle.vt_text.specs.declared.tree.ExprTree.TheViews.{the_lemmas}
use Rattle.vt_text.proofs.TreeLemmas.{expr_boxed, exprs_rows}
use Rattle.vt_text.proofs.meaning.+meaning.Goals as goal

-- the operands are those of the chain
pub meaning-returns-in_ok-new-in-Chain : goal.meaning-returns-in_ok-new-in-Chain
meaning-returns-in_ok-new-in-Chain g t c = search (rules, the_lemmas, exprs_rows, expr_boxed)

pub meaning-returns-in_err-operands-in-Chain : goal.meaning-returns-in_err-operands-in-Chain
meaning-returns-in_err-operands-in-Chain g t c = search (rules, the_lemmas, exprs_rows, expr_boxed)
