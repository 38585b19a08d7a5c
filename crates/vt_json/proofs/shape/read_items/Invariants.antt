use Rattle.std.proofs.Common.{◌≡◌, drop}
use Rattle.serde_json.specs.View.{items_view}
use Rattle.vt_json.specs.Shape.{items_in}
use Rattle.vt_facts.specs.Parts.{with_front}
use Rattle.vt_json.proofs.shape.read_items.Given as goal

-- the items so far and those of the rest are those of the whole
abbrev pub invariant-loop-value : goal.invariant-loop-value
invariant-loop-value g l = with_front l.items (items_in g.T.Shape.shape (items_view (drop l.value-index l.values))) ≡ items_in g.T.Shape.shape (items_view l.values)
