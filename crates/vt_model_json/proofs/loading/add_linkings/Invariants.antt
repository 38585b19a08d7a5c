use Rattle.std.proofs.Common.{◌≡◌, ◌++◌, drop}
use Rattle.std.specs.Prelude.{flat_map}
use Rattle.vt_model_json.specs.Loading.{linkings}
use Rattle.vt_model_json.proofs.loading.add_linkings.Given as goal

-- what is out, and what the rest gives, is what the whole gives
abbrev pub invariant-loop-object : goal.invariant-loop-object
invariant-loop-object l = l.changes ++ flat_map linkings (drop l.object-index l.objects) ≡ l.fn.changes ++ flat_map linkings l.objects
