use Rattle.std.proofs.Common.{◌≡◌, ◌+◌, ◌-◌, ◌/◌, ◌<◌, length, get_or, take, [], true, false, suc, subst, sym, ◌∙◌, arith}
use Rattle.std.proofs.lemmas.List.{get_or_read}
use Rattle.vt_sorted.specs.Inside.Places.{AllMeet}
use Rattle.vt_sorted.specs.Inside.Pieces.{joined, begins_after}
use Rattle.vt_sorted.proofs.FrontLemmas.{meet_earlier, none_later, all_later}
use Rattle.vt_sorted.proofs.large.end_place.Goals as goal

pub loop-low-preserved-then-begins_after : goal.loop-low-preserved-then-begins_after
loop-low-preserved-then-begins_after g c =
    let test = g.F.Front.holds c.args.front.now in
    let cs = c.args.chunks.now in
    let m = c.loop-low.low + (c.loop-low.high - c.loop-low.low) / 2 in
    let inside : m < length cs = omega arith in
    let is : c.index-chunks-middle.result ≡ get_or cs m [] = get_or_read cs m _ inside c.index-chunks-middle.is [] in
    let e : begins_after test (get_or cs m []) ≡ true = subst (λ x. begins_after test x ≡ true) is (sym c.begins_after.ensures ∙ c.if-begins_after.true) in
    record {
      ordered = omega arith;
      in_range = omega arith;
      before = c.loop-low.invariant.before;
      begins = c.loop-low.invariant.begins;
      after = none_later g.T.Ord.cmp test (g.met.F.Front.closed c.args.front.now) cs m c.requires.ascends inside e;
    }

pub loop-low-preserved : goal.loop-low-preserved
loop-low-preserved g c =
    let test = g.F.Front.holds c.args.front.now in
    let cs = c.args.chunks.now in
    let m = c.loop-low.low + (c.loop-low.high - c.loop-low.low) / 2 in
    let inside : m < length cs = omega arith in
    let is : c.index-chunks-middle.result ≡ get_or cs m [] = get_or_read cs m _ inside c.index-chunks-middle.is [] in
    let e : begins_after test (get_or cs m []) ≡ false = subst (λ x. begins_after test x ≡ false) is (sym c.begins_after.ensures ∙ c.if-begins_after.false) in
    let same : m ≡ m + 1 - 1 = omega arith in
    record {
      ordered = omega arith;
      in_range = c.loop-low.invariant.in_range;
      before = subst (λ k. AllMeet test (joined (take k cs))) same (meet_earlier g.T.Ord.cmp test (g.met.F.Front.closed c.args.front.now) cs m c.requires.ascends c.requires.filled inside e);
      begins = λ _. subst (λ k. begins_after test (get_or cs k []) ≡ false) same e;
      after = c.loop-low.invariant.after;
    }

pub returns : goal.returns
returns g c =
    let test = g.F.Front.holds c.args.front.now in
    let cs = c.args.chunks.now in
    let j = c.saturating_sub.result in
    let is : c.loop-low.low - 1 ≡ j = sym c.saturating_sub.ensures in
    record {
      in_range = omega arith;
      before = subst (λ k. AllMeet test (joined (take k cs))) is c.loop-low.invariant.before;
      begins = λ later. subst (λ k. begins_after test (get_or cs k []) ≡ false) is (c.loop-low.invariant.begins (omega arith));
      after = all_later (λ x. test x ≡ false) cs c.loop-low.high (suc j) (omega arith) c.loop-low.invariant.after;
    }
