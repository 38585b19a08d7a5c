use Rattle.std.proofs.Common.{◌≡◌, drop, nat_eq}
use Rattle.indexmap.specs.IndexSet.{insert_all}
use Rattle.vt_model.proofs.above.add_all.Given as goal

-- the rest gives what the whole gives
abbrev pub invariant-loop-place : goal.invariant-loop-place
invariant-loop-place l = insert_all nat_eq l.above.keys (drop l.place-index l.places) ≡ insert_all nat_eq l.fn.above.keys l.places
