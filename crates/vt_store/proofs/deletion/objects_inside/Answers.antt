use Rattle.std.proofs.Common.{subst, sym}
use Rattle.std.specs.Prelude.{◌≤◌, length}
use Rattle.vt_store.specs.Inside.Levels.{IsArranged}
use Rattle.vt_slots.specs.Ends.{number_order}
use Rattle.vt_store.proofs.Deleting.Counted.{length_live}
use Rattle.vt_store.proofs.Deleting.Found.{numbers_live, found_is}
use Rattle.vt_store.proofs.deletion.objects_inside.Goals as goal

pub returns : goal.returns
returns c =
    let g = c.args.graph.now in
    found_is g.meta g.model c.args.o c.requires.valid (numbers_live g.model c.args.o c.requires.live) c.next.result _
    (subst (λ n. length g.model.live ≤ n) (sym c.next.ensures) (length_live g.meta g.model c.requires.valid))
    (subst (λ l. IsArranged number_order l c.arrange_numbers.new.found.items) c.in_ok-found.ensures c.arrange_numbers.ensures)
