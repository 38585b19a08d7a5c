use Rattle.std.proofs.Common.{◌≡◌, ◌++◌, drop}
use Rattle.vt_meta.specs.Inside.Features.{names_at_each}
use Rattle.vt_meta.proofs.clashes.names_at_each.Given as goal

-- what is out, and what the rest gives, is what the whole gives
abbrev pub invariant-loop-place : goal.invariant-loop-place
invariant-loop-place l = l.names ++ names_at_each l.classes (drop l.place-index l.places) ≡ names_at_each l.classes l.places
