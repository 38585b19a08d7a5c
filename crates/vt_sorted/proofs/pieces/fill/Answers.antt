use Rattle.std.proofs.Common.{◌++◌, [], ap, ◌∙◌}
use Rattle.vt_sorted.specs.Inside.Pieces.{joined}
use Rattle.vt_sorted.proofs.PieceLemmas.{joined-push}
use Rattle.vt_sorted.proofs.pieces.fill.Goals as goal

pub returns-clause-items : goal.returns-clause-items
returns-clause-items g c =
    ap joined c.in_ok-push.ensures.items ∙ joined-push c.push_all.new.used.items c.push_all.new.last
    ∙ c.in_ok-push_all.ensures.items
    ∙ ap (λ cs. joined cs ++ c.in_ok-last.last ++ c.args.items.items) c.new-used.ensures.items
    ∙ ap (λ xs. [] ++ xs ++ c.args.items.items) c.in_ok-last.ensures
