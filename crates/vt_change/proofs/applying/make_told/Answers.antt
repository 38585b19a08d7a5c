use Rattle.std.proofs.Common.{subst}
use Rattle.vt_delta.specs.Changes.{change_of}
use Rattle.vt_change.specs.Inside.Telling.{IsTold}
use Rattle.vt_change.specs.Inside.Naming.{all_named, IsInOrder}
use Rattle.vt_change.proofs.ToldLemmas.{IsNet-told}
use Rattle.vt_change.proofs.WorkLemmas.{IsUnderWay-begins, AreTouched-under_way}
use Rattle.vt_change.proofs.applying.make_told.Goals as goal

-- nothing is told yet
pub make_all-requires-clause-begins : goal.make_all-requires-clause-begins
make_all-requires-clause-begins c =
    let s = c.args.store.now in
    IsUnderWay-begins s c.new-told.result c.args.edits.now c.meta.ensures.valid
    (subst (λ m. IsTold m s.model s.model c.new-told.result) c.meta.ensures.value (c.new-told.ensures s.model)) c.requires.begins

-- what was told is net
pub returns-clause-delta : goal.returns-clause-delta
returns-clause-delta c =
    IsNet-told c.args.store.now.meta c.args.store.now.model c.make_all.new.store.model c.make_all.new.told c.in_ok-make_all.ensures.goes.told

-- and the values in it name the objects that are touched
pub returns-clause-touched : goal.returns-clause-touched
returns-clause-touched c =
    let now = c.make_all.new.store in
    let told = c.make_all.new.told in
    AreTouched-under_way c.args.store.now now told c.make_all.new.edits c.in_ok-touched.touched c.in_ok-make_all.ensures.goes c.meta-2.ensures.valid
    (subst (λ n. IsInOrder (all_named n now.model (change_of told.values)) c.in_ok-touched.touched) c.next_number-next.ensures c.in_ok-touched.ensures)
