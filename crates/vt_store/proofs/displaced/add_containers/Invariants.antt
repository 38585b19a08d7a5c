use Rattle.std.proofs.Common.{◌≡◌, ◌++◌, drop}
use Rattle.std.specs.List.{flat_map}
use Rattle.vt_slots.specs.Ends.{EndList}
use Rattle.vt_store.specs.Inside.Displaced.{held_from}
use Rattle.vt_store.proofs.displaced.add_containers.Given as goal

abbrev pub invariant-loop-list : goal.invariant-loop-list
invariant-loop-list l = l.found.items ++ flat_map (held_from (λ (e : EndList). e.reference) (λ e. e.objects) l.meta l.target) (drop l.list-index l.lists)
    ≡ l.fn.found.items ++ flat_map (held_from (λ (e : EndList). e.reference) (λ e. e.objects) l.meta l.target) l.lists
