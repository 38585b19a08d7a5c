use Rattle.std.proofs.Common.{rules}
use Rattle.vt_text.specs.declared.expr.Expr.TheViews.{the_lemmas}
use Rattle.vt_text.proofs.ExpressionLemmas.{boxed, chain_rows}
use Rattle.vt_text.proofs.+eval.Goals as goal

-- the operands are those of the chain
pub expr::Expr::eval-returns-in-Chain : goal.expr::Expr::eval-returns-in-Chain
expr::Expr::eval-returns-in-Chain t c = search (rules, the_lemmas, chain_rows, boxed)
