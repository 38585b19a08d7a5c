use Rattle.std.proofs.Common.{◌≡◌, drop}
use Rattle.serde_json.specs.View.{items_view}
use Rattle.vt_facts.specs.Parts.{with_front}
use Rattle.vt_json.specs.Shape.{items_in}
use Rattle.vt_model_json.specs.ModelDocument.{object_shape}
use Rattle.vt_model_json.proofs.document.read_objects.Given as goal

-- the objects so far and those of the rest are those of the whole
abbrev pub invariant-loop-value : goal.invariant-loop-value
invariant-loop-value l = with_front l.objects (items_in object_shape (items_view (drop l.value-index l.values))) ≡ items_in object_shape (items_view l.values)
