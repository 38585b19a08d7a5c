use Rattle.std.proofs.Common.{Some, length, sym, ap, ◌∙◌, arith, ◌<◌}
use Rattle.std.proofs.lemmas.Option.{slice_get-get_or}
use Rattle.vt_session.proofs.NextLemmas.{IsOfPattern-at, if_ok}
use Rattle.vt_session.proofs.committing.pattern_events.Goals as goal

-- the rows at the number's place are the pattern's, before and after
pub returns : goal.returns
returns c =
    let below : c.args.number < length c.args.before.now = omega (arith, c.requires.there, c.requires.same) in
    let before = slice_get-get_or c.args.before.now c.args.number c.index-before-number.result below ∙ ap Some (sym c.index-before-number.is) in
    let after = slice_get-get_or c.args.after.now c.args.number c.index-after-number.result c.requires.there ∙ ap Some (sym c.index-after-number.is) in
    if_ok c.between.result _ _ _
    (λ e is facts. IsOfPattern-at (λ rows. rows.items) c.args.before.now c.args.after.now c.args.number c.index-before-number.result c.index-after-number.result c.args.touched.now e before after is facts)
    c.between.ensures.pattern c.between.ensures.events
