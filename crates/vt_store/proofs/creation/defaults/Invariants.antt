use Rattle.std.proofs.Common.{◌≡◌, ◌++◌, drop}
use Rattle.vt_model.specs.Creating.{defaults_from}
use Rattle.vt_store.proofs.creation.defaults.Given as goal

-- what is out, and what the rest gives, is what the whole gives
abbrev pub invariant-loop-a : goal.invariant-loop-a
invariant-loop-a l = l.values ++ defaults_from l.meta l.class l.object l.a (drop l.a l.attributes) ≡ defaults_from l.meta l.class l.object 0 l.attributes
