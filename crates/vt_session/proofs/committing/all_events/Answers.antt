use Rattle.std.proofs.Common.{◌≡◌, ◌+◌, ◌++◌, [], ◌∷◌, length, sym, subst, ap, ◌∙◌, arith, length-append}
use Rattle.std.specs.Prelude.{map}
use Rattle.std.proofs.lemmas.List.{length-map}
use Rattle.vt_session.proofs.NextLemmas.{AreEach, each-push, AreOfPatterns-each}
use Rattle.vt_session.proofs.committing.all_events.Goals as goal

-- one event more, of the next pattern
pub loop-number-preserved : goal.loop-number-preserved
loop-number-preserved c =
    let last = c.in_ok-pattern_events.field-0 in
    let old = map (λ rows. rows.items) c.args.before.now in
    let new = map (λ rows. rows.items) c.args.after.now in
    let more : length (c.loop-number.events ++ last ∷ []) ≡ c.loop-number.number + 1 = omega (arith, length-append c.loop-number.events (last ∷ []), c.loop-number.invariant.count) in
    record {
      count = ap length c.in_ok-add.ensures.added ∙ more;
      each = subst (AreEach old new c.args.touched.now) (sym c.in_ok-add.ensures.added)
          (each-push old new c.args.touched.now c.loop-number.events last c.loop-number.number c.loop-number.invariant.count c.loop-number.invariant.each c.in_ok-pattern_events.ensures);
    }

-- there is one for each pattern
pub returns : goal.returns
returns c =
    let old = map (λ rows. rows.items) c.args.before.now in
    let new = map (λ rows. rows.items) c.args.after.now in
    let all : length c.loop-number.events ≡ length c.args.after.now = omega (arith, c.loop-number.invariant.count, c.loop-number-test.false, c.loop-number.auto.number-end) in
    AreOfPatterns-each old new c.args.touched.now c.loop-number.events (all ∙ sym (length-map c.args.after.now (λ rows. rows.items))) c.loop-number.invariant.each
