use Rattle.std.proofs.Common.{◌≡◌, ◌++◌, ◌≤◌, drop, true}
use Rattle.vt_model_json.specs.ModelDocument.{rise}
use Rattle.vt_model_json.specs.Loading.{creations}
use Rattle.vt_model_json.proofs.loading.add_creations.Given as goal

-- what is out, and what the rest gives, is what the whole gives
abbrev pub invariant-loop-object : goal.invariant-loop-object
invariant-loop-object l = record {
  out : l.changes ++ creations l.above (drop l.object-index l.objects) ≡ l.fn.changes ++ creations 0 l.objects;
  rises : rise l.above (drop l.object-index l.objects) ≡ true;
  small : l.above ≤ 1048577;
}
