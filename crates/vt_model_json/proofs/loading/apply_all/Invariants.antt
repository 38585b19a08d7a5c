use Rattle.std.proofs.Common.{◌≡◌, drop}
use Rattle.vt_model.specs.Transaction.{changes_from}
use Rattle.vt_model_json.proofs.loading.apply_all.Given as goal

-- the rest of the changes, on the model so far, ends as the whole does
abbrev pub invariant-loop-place : goal.invariant-loop-place
invariant-loop-place l = record {
  rest : changes_from l.store.meta l.place l.store.model (drop l.place l.changes) ≡ changes_from l.fn.store.meta 0 l.fn.store.model l.changes;
  of : l.store.meta ≡ l.fn.store.meta;
}
