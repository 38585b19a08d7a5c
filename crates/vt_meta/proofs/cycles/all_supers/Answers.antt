use Rattle.std.proofs.Common.{◌≡◌, ◌∙◌, [], ◌∷◌, ◌++◌, map, ap, rules}
use Rattle.vt_meta.specs.Inside.Above.{class_places}
use Rattle.vt_meta.specs.declared.document.ClassDocument.{ClassDocument}
use Rattle.vt_model.proofs.MapLemmas.{out_more}
use Rattle.vt_meta.proofs.cycles.all_supers.Goals as goal

pub loop-class-preserved : goal.loop-class-preserved
loop-class-preserved c =
    let document = c.args.resolved.now.document in
    let class = c.class-item.result in
    let one : c.in_ok-class_places.field-0 ≡ class_places document class.supers = search rules in
    let f : ClassDocument → _ = λ class. class_places document class.supers in
    out_more f c.args.classes.now c.loop-class.class-index class c.loop-class.places c.add.new.self (map f c.args.classes.now)
    c.loop-class-test.true c.class-item.is c.loop-class.invariant (c.in_ok-add.ensures.added ∙ ap (λ places. c.loop-class.places ++ places ∷ []) one)
