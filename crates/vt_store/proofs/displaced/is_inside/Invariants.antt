use Rattle.std.proofs.Common.{◌≡◌, ◌-◌}
use Rattle.vt_model.specs.Containing.{is_within, is_inside}
use Rattle.vt_store.proofs.displaced.is_inside.Given as goal

abbrev pub invariant-loop : goal.invariant-loop
invariant-loop l = is_within l.graph.meta l.graph.model (l.end - l.counter) l.object l.outer ≡ is_inside l.graph.meta l.graph.model l.fn.o l.outer
