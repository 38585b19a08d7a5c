use Rattle.std.proofs.Common.{◌≡◌, ◌++◌, drop, map}
use Rattle.std.specs.Prelude.{flat_map}
use Rattle.vt_model.specs.declared.change.Change.TheVariants.{Link}
use Rattle.vt_model_json.proofs.loading.add_object_links.Given as goal

-- what is out, and what the rest gives, is what the whole gives
abbrev pub invariant-loop-reference : goal.invariant-loop-reference
invariant-loop-reference l = l.changes ++ flat_map (λ e. map (λ target. Link l.name e.0 target) e.1) (drop l.reference-index l.links) ≡ l.fn.changes ++ flat_map (λ e. map (λ target. Link l.name e.0 target) e.1) l.links
