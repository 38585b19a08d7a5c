use Rattle.std.proofs.Common.{take}
use Rattle.vt_meta.specs.Inside.Places.{FindEachReference}
use Rattle.vt_meta.proofs.resolved.all_reference_places.Given as goal

abbrev pub invariant-loop-class : goal.invariant-loop-class
invariant-loop-class l = FindEachReference (take l.class-index l.classes) l.places
