use Rattle.std.proofs.Common.{◌≡◌, drop}
use Rattle.vt_slots.specs.Ends.{EndList}
use Rattle.vt_store.specs.Inside.Displaced.{holder_in}
use Rattle.vt_store.proofs.displaced.holder_in.Given as goal

abbrev pub invariant-loop-list : goal.invariant-loop-list
invariant-loop-list l = holder_in (λ (e : EndList). e.reference) (λ e. e.objects) l.meta (drop l.list-index l.lists) ≡ holder_in (λ (e : EndList). e.reference) (λ e. e.objects) l.meta l.lists
