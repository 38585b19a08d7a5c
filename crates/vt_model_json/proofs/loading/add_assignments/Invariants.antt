use Rattle.std.proofs.Common.{◌≡◌, ◌++◌, drop}
use Rattle.std.specs.Prelude.{flat_map}
use Rattle.vt_model_json.specs.Loading.{assignments}
use Rattle.vt_model_json.proofs.loading.add_assignments.Given as goal

-- what is out, and what the rest gives, is what the whole gives
abbrev pub invariant-loop-object : goal.invariant-loop-object
invariant-loop-object l = l.changes ++ flat_map assignments (drop l.object-index l.objects) ≡ l.fn.changes ++ flat_map assignments l.objects
