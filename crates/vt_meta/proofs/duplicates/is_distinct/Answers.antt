use Rattle.std.proofs.Common.{◌≡◌, ◌∙◌, get_or, subst, sym, true, false}
use Rattle.std.specs.Prelude.{is_some}
use Rattle.std.proofs.lemmas.Bool.{not-true, not-false}
use Rattle.vt_model.specs.Places.{place_in, AddsPlace}
use Rattle.vt_model.proofs.PlacesLemmas.{FindsIn_more}
use Rattle.vt_model.proofs.DistinctLemmas.{distinct_more, distinct_stops}
use Rattle.vt_meta.proofs.duplicates.is_distinct.Goals as goal

pub returns-then-not-branch : goal.returns-then-not-branch
returns-then-not-branch c =
    let name = c.index-names-place.result in
    let there : is_some (place_in c.loop-place.seen name) ≡ true = not-false _ (sym c.in_ok-add.ensures.fresh ∙ c.if-not-branch.true) in
    sym (distinct_stops c.args.names.now c.loop-place.place name c.loop-place.seen c.loop-place-test.true c.index-names-place.is c.loop-place.invariant.0 there)

pub loop-place-preserved : goal.loop-place-preserved
loop-place-preserved c =
    let i = c.loop-place.place in
    let name = c.index-names-place.result in
    let adds : AddsPlace c.loop-place.seen c.add.new.self (get_or c.args.names.now i name) i =
    subst (λ n. AddsPlace c.loop-place.seen c.add.new.self n i) c.index-names-place.is c.in_ok-add.ensures.added in
    let fresh : is_some (place_in c.loop-place.seen name) ≡ false = not-true _ (sym c.in_ok-add.ensures.fresh ∙ c.if-not-branch.false) in (
      FindsIn_more c.args.names.now i name c.loop-place.seen c.add.new.self c.loop-place-test.true c.loop-place.invariant.0 adds,
      distinct_more c.args.names.now i name c.loop-place.seen c.loop-place-test.true c.index-names-place.is c.loop-place.invariant.0 c.loop-place.invariant.1 fresh,
    )
