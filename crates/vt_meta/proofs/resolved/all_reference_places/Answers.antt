use Rattle.std.proofs.Common.{◌+◌, sym, subst, take}
use Rattle.vt_meta.specs.Inside.Places.{FindEachReference}
use Rattle.vt_meta.proofs.PlacesLemmas.{each_more}
use Rattle.vt_meta.proofs.resolved.all_reference_places.Goals as goal

pub loop-class-preserved : goal.loop-class-preserved
loop-class-preserved c =
    subst (FindEachReference (take (c.loop-class.class-index + 1) c.args.classes.now)) (sym c.in_ok-add.ensures.added)
    (each_more c.args.classes.now c.loop-class.places c.loop-class.class-index c.class-item.result c.in_ok-reference_places.field-0
    c.loop-class-test.true c.class-item.is c.loop-class.invariant c.in_ok-reference_places.ensures)
