use Rattle.std.proofs.Common.{◌≡◌, ◌∙◌, [], ◌∷◌, ◌++◌, sym, rules, arith}
use Rattle.std.proofs.lemmas.List.FromFn.{map-range_with_len_more}
use Rattle.vt_model.specs.Inside.Tables.{above_row}
use Rattle.vt_model.proofs.above.above_table.Goals as goal

pub loop-class-preserved : goal.loop-class-preserved
loop-class-preserved c =
    let row : c.in_ok-above_row.field-0 ≡ above_row c.args.supers.now c.loop-class.class = search rules in
    c.in_ok-add.ensures.added
    ∙ (λ i. c.loop-class.invariant i ++ row i ∷ [])
    ∙ sym (map-range_with_len_more (above_row c.args.supers.now) 0 c.loop-class.class c.loop-class.class (omega arith))
