use Rattle.std.proofs.Common.{◌≡◌, ◌++◌, drop, map}
use Rattle.vt_model.proofs.features.add_reference_names.Given as goal

-- what is out, and what the rest gives, is what the whole gives
abbrev pub invariant-loop-reference : goal.invariant-loop-reference
invariant-loop-reference l = l.names ++ map (λ r. r.name) (drop l.reference-index l.references) ≡ l.fn.names ++ map (λ r. r.name) l.references
