use Rattle.std.proofs.Common.{length, subst}
use Rattle.vt_model.specs.Inside.Tables.{FindsEnumInfo, FindsClassInfo, MarksAbove}
use Rattle.vt_model.specs.Inside.FeatureTable.{AreFeatures}
use Rattle.vt_model.proofs.FeatureLemmas.{marks_classes, features_found}
use Rattle.vt_model.proofs.metamodel.Metamodel.new.Goals as goal

-- the tables are made of the lists
pub with_tables-requires-clause-tables : goal.with_tables-requires-clause-tables
with_tables-requires-clause-tables c =
    let lists = c.args.lists in
    let rows = c.in_ok-above.above in
    let f = c.in_ok-features.features in
    let enums : FindsEnumInfo lists.enums c.in_ok-enums.enums = subst (λ l. FindsEnumInfo l c.in_ok-enums.enums) c.as_slice.ensures c.in_ok-enums.ensures in
    let classes : FindsClassInfo lists.classes c.in_ok-classes.classes = subst (λ l. FindsClassInfo l c.in_ok-classes.classes) c.as_slice-2.ensures c.in_ok-classes.ensures in
    let marks : MarksAbove lists.supers (length lists.supers) rows = subst (λ l. MarksAbove l (length l) rows) c.as_slice-3.ensures c.in_ok-above.ensures in
    let are : AreFeatures lists.attributes lists.references rows (length lists.classes) f =
    subst (λ attributes. AreFeatures attributes lists.references rows (length lists.classes) f) c.as_slice-4.ensures
    (subst (λ references. AreFeatures c.as_slice-4.result.now references rows (length lists.classes) f) c.as_slice-5.ensures
    (subst (λ above. AreFeatures c.as_slice-4.result.now c.as_slice-5.result.now above (length lists.classes) f) c.as_slice-6.ensures
    (subst (λ count. AreFeatures c.as_slice-4.result.now c.as_slice-5.result.now c.as_slice-6.result.now count f) c.len.ensures c.in_ok-features.ensures))) in
    (enums, classes, marks_classes lists c.requires.sound rows marks, features_found lists c.requires.sound rows f marks are)
