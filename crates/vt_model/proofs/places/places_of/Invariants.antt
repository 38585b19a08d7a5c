use Rattle.std.proofs.Common.{take}
use Rattle.vt_model.specs.Places.{FindsIn}
use Rattle.vt_model.proofs.places.places_of.Given as goal

abbrev pub invariant-loop-place : goal.invariant-loop-place
invariant-loop-place l = FindsIn (take l.place l.names) l.places
