use Rattle.std.proofs.Common.{◌∙◌, ap, get_or}
use Rattle.std.specs.Option.{option_or}
use Rattle.vt_model.specs.Inside.FeatureTable.{feature_if, is_entry_of}
use Rattle.vt_model.specs.declared.features.Entry.{Entry}
use Rattle.vt_model.specs.declared.metamodel.Feature.TheVariants.{Attr}
use Rattle.vt_model.proofs.FeatureLemmas.{first_entry_more}
use Rattle.vt_model.proofs.features.features_of.Goals as goal

pub loop-entry-preserved : goal.loop-entry-preserved
loop-entry-preserved c = λ number.
    let above = c.args.above.now in
    let class = c.args.class in
    let d : Entry = record { number = 0; class = record { 0 = 0 }; feature = Attr (record { 0 = 0 }) } in
    let e = get_or c.args.entries.now c.loop-entry.entry-index d in
    c.in_ok-keep_of_class.ensures number
    ∙ ap (λ r. option_or r (feature_if (is_entry_of above class number e) e.feature)) (c.loop-entry.invariant number)
    ∙ first_entry_more above class number c.args.entries.now c.loop-entry.entry-index d c.loop-entry-test.true
