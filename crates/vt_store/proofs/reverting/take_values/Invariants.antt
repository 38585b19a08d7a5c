use Rattle.std.proofs.Common.{◌≡◌, drop}
use Rattle.vt_store.specs.Inside.Assigned.{without_values}
use Rattle.vt_store.proofs.reverting.take_values.Given as goal

-- what is still to be taken from the model leaves what is to be left
abbrev pub invariant-loop-held : goal.invariant-loop-held
invariant-loop-held l = record {
  meta : l.graph.meta ≡ l.fn.graph.meta;
  places : l.graph.places ≡ l.fn.graph.places;
  live : l.graph.model.live ≡ l.fn.graph.model.live;
  left : without_values l.graph.model (drop l.held-index l.values) ≡ without_values l.fn.graph.model l.values;
}
