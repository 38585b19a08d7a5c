use Rattle.std.proofs.Common.{get_or, subst}
use Rattle.vt_model.specs.Places.{AddsPlace}
use Rattle.vt_model.proofs.PlacesLemmas.{FindsIn_more}
use Rattle.vt_model.proofs.places.places_of.Goals as goal

pub loop-place-preserved : goal.loop-place-preserved
loop-place-preserved c =
    let i = c.loop-place.place in
    let name = c.index-names-place.result in
    let adds : AddsPlace c.loop-place.places c.add.new.self (get_or c.args.names.now i name) i =
    subst (λ n. AddsPlace c.loop-place.places c.add.new.self n i) c.index-names-place.is c.in_ok-add.ensures.added in
    FindsIn_more c.args.names.now i name c.loop-place.places c.add.new.self c.loop-place-test.true c.loop-place.invariant adds
