use Rattle.std.proofs.Common.{◌≡◌, fold, reverse}
use Rattle.vt_graph.specs.Room.{KeepsRoom}
use Rattle.vt_store.specs.Inside.Displaced.{without_link}
use Rattle.vt_store.proofs.relinking.drop_back.Given as goal

abbrev pub invariant-loop-link : goal.invariant-loop-link
invariant-loop-link l = (l.graph.meta ≡ l.fn.graph.meta)
    × (fold without_link l.graph.model (reverse l.link-iterator.iter.rest.now) ≡ fold without_link l.fn.graph.model (reverse l.gone))
    × KeepsRoom l.fn.graph.places l.graph.places
