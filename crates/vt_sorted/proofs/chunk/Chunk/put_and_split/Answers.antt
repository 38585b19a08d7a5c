use Rattle.std.proofs.Common.{◌++◌, ap, sym, ◌∙◌, arith}
use Rattle.std.specs.List.{insert}
use Rattle.std.proofs.lemmas.List.Edits.{insert-append_right}
use Rattle.vt_sorted.proofs.chunk.Chunk.put_and_split.Goals as goal

pub returns-else-at-le-HALF-clause-items : goal.returns-else-at-le-HALF-clause-items
returns-else-at-le-HALF-clause-items g c =
    ap (λ xs. c.split.new.self ++ xs) c.put-else-at-le-HALF.ensures
    ∙ sym (insert-append_right c.split.new.self c.split.new.upper 56 c.args.at c.args.item c.split.ensures.lower (omega arith))
    ∙ ap (λ xs. insert xs c.args.at c.args.item) (sym c.split.ensures.items)
