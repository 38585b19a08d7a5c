use Rattle.std.proofs.Common.{◌≡◌, ◌+◌, ◌∙◌, [], ◌∷◌, ◌++◌, length, subst, sym, ap, arith, length-append}
use Rattle.vt_model.specs.Inside.FeatureTable.{KeepsFirst}
use Rattle.vt_model.proofs.FeatureLemmas.{keeps_more}
use Rattle.vt_model.proofs.features.all_features.Goals as goal

pub loop-class-preserved : goal.loop-class-preserved
loop-class-preserved c =
    let rows = c.loop-class.rows in
    let row = c.in_ok-features_of.field-0 in
    let is : c.add.new.self ≡ rows ++ row ∷ [] = c.in_ok-add.ensures.added in
    let before : length rows ≡ c.loop-class.class = c.loop-class.invariant.0 in
    let len : length (rows ++ row ∷ []) ≡ c.loop-class.class + 1 = simp length-append (omega arith) in (
      ap length is ∙ len,
      subst (KeepsFirst c.args.entries.now c.args.above.now (c.loop-class.class + 1)) (sym is)
          (keeps_more c.args.entries.now c.args.above.now c.loop-class.class rows row before c.loop-class.invariant.1 c.in_ok-features_of.ensures),
    )
