use Rattle.std.proofs.Common.{◌≡◌, ◌<◌, ◌≤◌, ℕ, Bool, ◌∙◌, sym, ap, subst, length, true, false, Some, arith}
use Rattle.vt_meta.specs.Faults.{is_above_itself}
use Rattle.vt_model.specs.Above.{class_id, AreThere}
use Rattle.vt_meta.proofs.FirstLemmas.{at_place_hit, at_place_miss, at_class_end}
use Rattle.vt_meta.proofs.SupersLemmas.{length_supers, there_supers, above_itself}
use Rattle.vt_meta.proofs.cycles.super_cycle_place.Goals as goal

pub is_above_itself-requires : goal.is_above_itself-requires
is_above_itself-requires c = subst AreThere (sym c.requires) (there_supers c.args.document.now)

pub place_of_class-requires : goal.place_of_class-requires
place_of_class-requires c = omega (arith, length_supers c.args.document.now c.args.supers.now c.requires)

pub returns-then-branch : goal.returns-then-branch
returns-then-branch c =
    let document = c.args.document.now in
    let i = c.loop-i.i in
    let test : ℕ → Bool = λ n. is_above_itself document (class_id n) in
    let below : i < length document.classes = omega (arith, length_supers document c.args.supers.now c.requires) in
    let is : test i ≡ true = sym (above_itself document c.args.supers.now i c.requires) ∙ sym c.in_ok-is_above_itself.ensures ∙ c.if-branch.true in
    ap Some c.place_of_class.ensures ∙ sym (at_place_hit document test i c.loop-i.invariant below is)

pub loop-i-preserved : goal.loop-i-preserved
loop-i-preserved c =
    let document = c.args.document.now in
    let i = c.loop-i.i in
    let test : ℕ → Bool = λ n. is_above_itself document (class_id n) in
    let below : i < length document.classes = omega (arith, length_supers document c.args.supers.now c.requires) in
    let is : test i ≡ false = sym (above_itself document c.args.supers.now i c.requires) ∙ sym c.in_ok-is_above_itself.ensures ∙ c.if-branch.false in
    at_place_miss document test i c.loop-i.invariant below is

pub returns : goal.returns
returns c =
    let document = c.args.document.now in
    let past : length document.classes ≤ c.loop-i.i = omega (arith, length_supers document c.args.supers.now c.requires) in
    sym (at_class_end document (λ n c. is_above_itself document (class_id n)) c.loop-i.i c.loop-i.invariant past)
