use Rattle.std.proofs.Common.{◌≡◌, ◌++◌, drop}
use Rattle.vt_model.specs.Above.{ids}
use Rattle.vt_meta.proofs.building.all_class_ids.Given as goal

-- what is out, and what the rest gives, is what the whole gives
abbrev pub invariant-loop-places : goal.invariant-loop-places
invariant-loop-places l = l.numbers ++ ids (drop l.places-index l.supers) ≡ ids l.supers
