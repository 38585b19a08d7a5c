use Rattle.std.proofs.Common.{◌≡◌, drop}
use Rattle.vt_graph.specs.Room.{KeepsRoom}
use Rattle.vt_store.specs.Inside.Displaced.{IsReturning, with_each}
use Rattle.vt_store.proofs.reverting.put_links.Given as goal

-- the links that are left make of the model what it is to be
abbrev pub invariant-loop-link : goal.invariant-loop-link
invariant-loop-link l = record {
  meta : l.graph.meta ≡ l.fn.graph.meta;
  returning : IsReturning (with_each l.fn.graph.model l.links) l.graph.model (drop l.link-index l.links);
  room : KeepsRoom l.fn.graph.places l.graph.places;
}
