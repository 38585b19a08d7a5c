use Rattle.std.proofs.Common.{◌≡◌, ◌++◌, drop, map}
use Rattle.vt_model.specs.declared.change.Change.TheVariants.{Link}
use Rattle.vt_model_json.proofs.loading.add_targets.Given as goal

-- what is out, and what the rest gives, is what the whole gives
abbrev pub invariant-loop-target : goal.invariant-loop-target
invariant-loop-target l = l.changes ++ map (λ target. Link l.name l.reference target) (drop l.target-index l.targets) ≡ l.fn.changes ++ map (λ target. Link l.name l.reference target) l.targets
