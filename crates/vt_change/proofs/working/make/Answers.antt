use Rattle.std.proofs.Common.{sym, subst}
use Rattle.vt_change.specs.Inside.Telling.{HasPlaces, Tells}
use Rattle.vt_change.specs.Inside.Working.{IsUnderWay, StillLeadBack}
use Rattle.vt_change.proofs.WorkLemmas.{still_refused, still_reverted, still_pushed, HasPlaces-made, IsUnderWay-made}
use Rattle.vt_change.proofs.working.make.Goals as goal

-- the change isn't made
pub returns-in_err-edit-clause-back : goal.returns-in_err-edit-clause-back
returns-in_err-edit-clause-back c = still_refused c.args.change.now c.args.store.now c.apply.new.self c.in_err-edit.field-0.0 c.in_err-edit.ensures c.args.edits.now

-- it is made
pub tell-answer-requires : goal.tell-answer-requires
tell-answer-requires c = record {
  there = subst (λ m. HasPlaces m c.in_ok-edit.edit.edit c.args.told.now) (sym c.meta-2.ensures.value)
      (HasPlaces-made c.args.change.now c.args.store.now c.apply.new.self c.in_ok-edit.edit c.gives_storable.ensures c.meta.ensures.sound c.meta.ensures.valid c.in_ok-edit.ensures
      c.args.told.now c.meta-2.ensures.valid c.requires.counts);
}

-- its edit is taken back
pub returns-in_err-keep-clause-back : goal.returns-in_err-keep-clause-back
returns-in_err-keep-clause-back c =
    still_reverted c.args.change.now c.args.store.now c.apply.new.self c.in_ok-edit.edit c.gives_storable.ensures c.meta.ensures.sound c.meta.ensures.valid c.in_ok-edit.ensures
    c.keep.new.store c.in_err-keep.ensures.back.1 c.args.edits.now c.keep.new.edits c.in_err-keep.ensures.back.0

-- its edit is kept
pub returns-in_err-answer-clause-back : goal.returns-in_err-answer-clause-back
returns-in_err-answer-clause-back c = subst (StillLeadBack c.args.edits.now c.args.store.now c.keep.new.edits) (sym c.in_ok-keep.ensures.kept.1)
    (still_pushed c.args.change.now c.args.store.now c.apply.new.self c.in_ok-edit.edit c.gives_storable.ensures c.meta.ensures.sound c.meta.ensures.valid c.in_ok-edit.ensures
    c.args.edits.now c.keep.new.edits c.in_ok-keep.ensures.kept.0)

pub returns-clause-back : goal.returns-clause-back
returns-clause-back c = subst (StillLeadBack c.args.edits.now c.args.store.now c.keep.new.edits) (sym c.in_ok-keep.ensures.kept.1)
    (still_pushed c.args.change.now c.args.store.now c.apply.new.self c.in_ok-edit.edit c.gives_storable.ensures c.meta.ensures.sound c.meta.ensures.valid c.in_ok-edit.ensures
    c.args.edits.now c.keep.new.edits c.in_ok-keep.ensures.kept.0)

-- and what it tells goes with the rest
pub returns-clause-goes : goal.returns-clause-goes
returns-clause-goes c before under = subst (λ s. IsUnderWay before s c.tell-answer.new.told c.keep.new.edits) (sym c.in_ok-keep.ensures.kept.1)
    (IsUnderWay-made c.args.change.now c.args.store.now c.apply.new.self c.in_ok-edit.edit c.gives_storable.ensures c.meta.ensures.sound c.meta.ensures.valid c.in_ok-edit.ensures
    c.meta-2.ensures.valid c.args.told.now c.tell-answer.new.told c.args.edits.now c.keep.new.edits
    (subst (λ m. Tells m c.in_ok-edit.edit.edit c.args.told.now c.tell-answer.new.told) c.meta-2.ensures.value c.in_ok-answer.ensures)
    c.in_ok-keep.ensures.kept.0 before under)
