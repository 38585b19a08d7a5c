use Rattle.std.proofs.Common.{◌≡◌, ◌++◌, ◌∷◌, [], ap, ◌∙◌}
use Rattle.std.specs.List.{insert}
use Rattle.vt_sorted.specs.Inside.Pieces.{joined}
use Rattle.vt_sorted.proofs.PieceLemmas.{joined-push}
use Rattle.vt_sorted.proofs.pieces.push_last.Goals as goal

pub returns-clause-items : goal.returns-clause-items
returns-clause-items g c =
    let used = c.args.used.now.items in
    let dest = c.replace.new.dest in
    let single : dest ≡ c.args.item ∷ [] = c.replace.ensures.after ∙ c.put-2.ensures ∙ ap (λ xs. insert xs 0 c.args.item) c.in_ok-next.ensures in
    ap (λ cs. joined cs ++ dest) (c.in_ok-push.ensures.items ∙ ap (λ d. used ++ d ∷ []) c.replace.ensures.value)
    ∙ ap (λ xs. xs ++ dest) (joined-push used c.args.last.now)
    ∙ ap (λ xs. joined used ++ c.args.last.now ++ xs) single
