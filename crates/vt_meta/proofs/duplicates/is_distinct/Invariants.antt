use Rattle.std.proofs.Common.{◌≡◌, take, true}
use Rattle.vt_facts.specs.Names.{is_distinct}
use Rattle.vt_model.specs.Places.{FindsIn}
use Rattle.vt_meta.proofs.duplicates.is_distinct.Given as goal

abbrev pub invariant-loop-place : goal.invariant-loop-place
invariant-loop-place l = FindsIn (take l.place l.names) l.seen × (is_distinct (take l.place l.names) ≡ true)
