use Rattle.std.proofs.Common.{◌≡◌, drop}
use Rattle.vt_model.specs.Transaction.{changes_from}
use Rattle.vt_change.specs.Inside.Working.{IsUnderWay}
use Rattle.vt_change.proofs.working.make_all.Given as goal

-- the changes so far are made, and the others make of the model what all do
abbrev pub invariant-loop-at : goal.invariant-loop-at
invariant-loop-at l = record {
  under : IsUnderWay l.fn.store l.store l.told l.edits;
  rest : changes_from l.fn.store.meta l.at l.store.model (drop l.at l.changes) ≡ changes_from l.fn.store.meta 0 l.fn.store.model l.changes;
}
