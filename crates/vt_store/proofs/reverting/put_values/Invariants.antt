use Rattle.std.proofs.Common.{◌≡◌, drop}
use Rattle.vt_store.specs.Inside.Assigned.{with_values}
use Rattle.vt_store.proofs.reverting.put_values.Given as goal

-- what is still to be put into the model makes it what it is to be
abbrev pub invariant-loop-held : goal.invariant-loop-held
invariant-loop-held l = record {
  meta : l.graph.meta ≡ l.fn.graph.meta;
  places : l.graph.places ≡ l.fn.graph.places;
  live : l.graph.model.live ≡ l.fn.graph.model.live;
  made : with_values l.graph.model (drop l.held-index l.values) ≡ with_values l.fn.graph.model l.values;
}
