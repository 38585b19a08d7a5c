use Rattle.std.proofs.Common.{rules}
use Rattle.vt_text.specs.declared.expr.Expr.TheViews.{the_lemmas}
use Rattle.vt_text.proofs.KindLemmas.{boxed, chain_rows}
use Rattle.vt_text.proofs.+kind.Goals as goal

-- the operands are those of the chain
pub expr::Expr::kind_of-returns-in-Chain : goal.expr::Expr::kind_of-returns-in-Chain
expr::Expr::kind_of-returns-in-Chain t c = search (rules, the_lemmas, chain_rows, boxed)
