use Rattle.std.proofs.Common.{◌≡◌, ◌<◌, ◌+◌, ◌∙◌, sym, ap, subst, length, take, drop, get_or, true, false, Some, rules, arith}
use Rattle.std.specs.Prelude.{◌||◌, not}
use Rattle.vt_meta.specs.Declarations.{item_names, declared_names}
use Rattle.vt_facts.specs.Names.{is_distinct}
use Rattle.vt_meta.specs.Faults.{first_place, is_bad_class}
use Rattle.vt_model.specs.Places.{FindsIn, AddsPlace}
use Rattle.vt_meta.proofs.FirstLemmas.{first_place_hit, first_place_miss}
use Rattle.vt_meta.proofs.DuplicateLemmas.{is_taken-seen, IsItem-class, FindsIn-item}
use Rattle.vt_meta.proofs.duplicates.bad_class_place.Goals as goal

pub returns-then-branch : goal.returns-then-branch
returns-then-branch c =
    let document = c.args.document.now in
    let i = c.loop-i.i in
    let n = length document.enums + i in
    let class = c.class-item.result in
    let below : i < length document.classes = search rules in
    let at : class ≡ get_or document.classes i class = search rules in
    let bad : is_bad_class document n class ≡ true =
    ap (λ b. b || not (is_distinct (declared_names class))) (is_taken-seen document n class.name c.loop-i.seen c.loop-i.invariant.0)
    ∙ sym c.in_ok-is_bad_class.ensures.bad ∙ c.if-branch.true in
    ap Some c.place_of_class-place.ensures ∙ sym (first_place_hit (is_bad_class document) document.classes n i class below at bad) ∙ c.loop-i.invariant.1

pub loop-i-preserved : goal.loop-i-preserved
loop-i-preserved c =
    let document = c.args.document.now in
    let i = c.loop-i.i in
    let n = length document.enums + i in
    let class = c.class-item.result in
    let below : i < length document.classes = search rules in
    let at : class ≡ get_or document.classes i class = search rules in
    let good : is_bad_class document n class ≡ false =
    ap (λ b. b || not (is_distinct (declared_names class))) (is_taken-seen document n class.name c.loop-i.seen c.loop-i.invariant.0)
    ∙ sym c.in_ok-is_bad_class.ensures.bad ∙ c.if-branch.false in
    let next : n + 1 ≡ length document.enums + (i + 1) = omega arith in (
      subst (λ m. FindsIn (take m (item_names document)) c.is_bad_class.new.seen) next
          (FindsIn-item document n class.name c.loop-i.seen c.is_bad_class.new.seen (IsItem-class document i class below at) c.loop-i.invariant.0 (subst (AddsPlace c.loop-i.seen c.is_bad_class.new.seen class.name) c.place_of_class-place.ensures (c.in_ok-is_bad_class.ensures.added c.if-branch.false))),
      ap (λ m. first_place (is_bad_class document) m (drop (i + 1) document.classes)) (sym next)
          ∙ sym (first_place_miss (is_bad_class document) document.classes n i class below at good) ∙ c.loop-i.invariant.1,
    )
