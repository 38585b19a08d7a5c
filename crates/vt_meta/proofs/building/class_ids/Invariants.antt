use Rattle.std.proofs.Common.{◌≡◌, ◌++◌, drop, map}
use Rattle.vt_model.specs.Above.{class_id}
use Rattle.vt_meta.proofs.building.class_ids.Given as goal

-- what is out, and what the rest gives, is what the whole gives
abbrev pub invariant-loop-place : goal.invariant-loop-place
invariant-loop-place l = l.numbers ++ map class_id (drop l.place-index l.places) ≡ map class_id l.places
