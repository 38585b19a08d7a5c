use Rattle.std.proofs.Common.{◌≡◌, ◌<◌, ◌∙◌, sym, ap, length, get_or, true, false, rules}
use Rattle.std.specs.Prelude.{◌||◌, not}
use Rattle.vt_facts.specs.Names.{is_distinct}
use Rattle.vt_meta.specs.Faults.{is_bad_enum}
use Rattle.vt_meta.proofs.FirstLemmas.{first_place_hit, first_place_miss}
use Rattle.vt_meta.proofs.DuplicateLemmas.{is_taken-seen, IsItem-enum, FindsIn-item}
use Rattle.vt_meta.proofs.duplicates.bad_enum_place.Goals as goal

pub returns-then-branch-clause-place : goal.returns-then-branch-clause-place
returns-then-branch-clause-place c =
    let document = c.args.document.now in
    let i = c.loop-place.place in
    let e = c.info-item.result in
    let below : i < length document.enums = search rules in
    let at : e ≡ get_or document.enums i e = search rules in
    let bad : is_bad_enum document i e ≡ true =
    ap (λ b. b || not (is_distinct e.literals)) (is_taken-seen document i e.name c.loop-place.seen c.loop-place.invariant.0)
    ∙ sym c.in_ok-is_bad_enum.ensures.bad ∙ c.if-branch.true in
    sym (first_place_hit (is_bad_enum document) document.enums i i e below at bad) ∙ c.loop-place.invariant.1

pub loop-place-preserved : goal.loop-place-preserved
loop-place-preserved c =
    let document = c.args.document.now in
    let i = c.loop-place.place in
    let e = c.info-item.result in
    let below : i < length document.enums = search rules in
    let at : e ≡ get_or document.enums i e = search rules in
    let good : is_bad_enum document i e ≡ false =
    ap (λ b. b || not (is_distinct e.literals)) (is_taken-seen document i e.name c.loop-place.seen c.loop-place.invariant.0)
    ∙ sym c.in_ok-is_bad_enum.ensures.bad ∙ c.if-branch.false in (
      FindsIn-item document i e.name c.loop-place.seen c.is_bad_enum.new.seen (IsItem-enum document i e below at) c.loop-place.invariant.0 (c.in_ok-is_bad_enum.ensures.added c.if-branch.false),
      sym (first_place_miss (is_bad_enum document) document.enums i i e below at good) ∙ c.loop-place.invariant.1,
    )
