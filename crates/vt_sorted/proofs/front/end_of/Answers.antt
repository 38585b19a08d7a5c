use Rattle.std.proofs.Common.{◌≡◌, ◌+◌, ◌-◌, ◌/◌, get_or, take, drop, true, false, subst, sym, ◌∙◌, add-one, arith}
use Rattle.vt_sorted.specs.Inside.Places.{AllMeet, NoneMeet}
use Rattle.vt_sorted.proofs.FrontLemmas.{items_after-end, meet_to, none_from}
use Rattle.vt_sorted.proofs.front.end_of.Goals as goal

pub loop-low-preserved-then-holds : goal.loop-low-preserved-then-holds
loop-low-preserved-then-holds g c =
    let test = g.F.Front.holds c.args.front.now in
    let xs = c.args.items.now in
    let m = c.loop-low.low + (c.loop-low.high - c.loop-low.low) / 2 in
    let x = c.index-items-middle.result in
    let e : test (get_or xs m x) ≡ true = subst (λ y. test y ≡ true) c.index-items-middle.is (sym c.holds.ensures ∙ c.if-holds.true) in
    record {
      ordered = omega arith;
      in_range = c.loop-low.invariant.in_range;
      before = subst (λ k. AllMeet test (take k xs)) (sym (add-one m)) (meet_to g.T.Ord.cmp test (g.met.F.Front.closed c.args.front.now) xs m x c.requires (omega arith) e);
      after = c.loop-low.invariant.after;
    }

pub loop-low-preserved : goal.loop-low-preserved
loop-low-preserved g c =
    let test = g.F.Front.holds c.args.front.now in
    let xs = c.args.items.now in
    let m = c.loop-low.low + (c.loop-low.high - c.loop-low.low) / 2 in
    let x = c.index-items-middle.result in
    let e : test (get_or xs m x) ≡ false = subst (λ y. test y ≡ false) c.index-items-middle.is (sym c.holds.ensures ∙ c.if-holds.false) in
    record {
      ordered = omega arith;
      in_range = omega arith;
      before = c.loop-low.invariant.before;
      after = none_from g.T.Ord.cmp test (g.met.F.Front.closed c.args.front.now) xs m x c.requires (omega arith) e;
    }

pub returns : goal.returns
returns g c =
    let test = g.F.Front.holds c.args.front.now in
    let xs = c.args.items.now in
    let same : c.loop-low.high ≡ c.loop-low.low = omega arith in
    record {
      in_range = omega arith;
      left = items_after-end test xs c.loop-low.low c.loop-low.invariant.before (subst (λ k. NoneMeet test (drop k xs)) same c.loop-low.invariant.after);
    }
