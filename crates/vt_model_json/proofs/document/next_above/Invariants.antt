use Rattle.std.proofs.Common.{◌≡◌, ◌≤◌, drop}
use Rattle.vt_model_json.specs.ModelDocument.{rise, above_all}
use Rattle.vt_model_json.proofs.document.next_above.Given as goal

-- the rest decides, above the numbers so far
abbrev pub invariant-loop-object : goal.invariant-loop-object
invariant-loop-object l = record {
  rises : rise l.above (drop l.object-index l.objects) ≡ rise 0 l.objects;
  last : above_all l.above (drop l.object-index l.objects) ≡ above_all 0 l.objects;
  small : l.above ≤ 1048577;
}
