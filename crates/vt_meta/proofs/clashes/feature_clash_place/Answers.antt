use Rattle.std.proofs.Common.{◌≡◌, ◌<◌, ◌≤◌, ℕ, Bool, ◌∙◌, sym, ap, length, true, false, Some, arith}
use Rattle.vt_meta.specs.Faults.{has_clash}
use Rattle.vt_model.specs.Above.{class_id}
use Rattle.vt_meta.proofs.FirstLemmas.{at_place_hit, at_place_miss, at_class_end}
use Rattle.vt_meta.proofs.SupersLemmas.{length_supers}
use Rattle.vt_meta.proofs.clashes.feature_clash_place.Goals as goal

pub place_of_class-requires : goal.place_of_class-requires
place_of_class-requires c = omega (arith, length_supers c.args.document.now c.args.supers.now c.requires)

pub returns-then-branch : goal.returns-then-branch
returns-then-branch c =
    let document = c.args.document.now in
    let test : ℕ → Bool = λ n. has_clash document (class_id n) in
    let below : c.loop-i.i < length document.classes = omega (arith, length_supers document c.args.supers.now c.requires) in
    let is : test c.loop-i.i ≡ true = sym c.in_ok-has_clash.ensures ∙ c.if-branch.true in
    ap Some c.place_of_class.ensures ∙ sym (at_place_hit document test c.loop-i.i c.loop-i.invariant below is)

pub loop-i-preserved : goal.loop-i-preserved
loop-i-preserved c =
    let document = c.args.document.now in
    let test : ℕ → Bool = λ n. has_clash document (class_id n) in
    let below : c.loop-i.i < length document.classes = omega (arith, length_supers document c.args.supers.now c.requires) in
    let is : test c.loop-i.i ≡ false = sym c.in_ok-has_clash.ensures ∙ c.if-branch.false in
    at_place_miss document test c.loop-i.i c.loop-i.invariant below is

pub returns : goal.returns
returns c =
    let document = c.args.document.now in
    let past : length document.classes ≤ c.loop-i.i = omega (arith, length_supers document c.args.supers.now c.requires) in
    sym (at_class_end document (λ n c. has_clash document (class_id n)) c.loop-i.i c.loop-i.invariant past)
