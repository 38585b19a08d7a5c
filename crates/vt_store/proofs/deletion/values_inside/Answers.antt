use Rattle.std.proofs.Common.{◌∙◌}
use Rattle.vt_store.proofs.Deleting.Values.{values_inside_are}
use Rattle.vt_store.proofs.deletion.values_inside.Goals as goal

pub returns : goal.returns
returns c =
    let g = c.args.graph.now in
    c.in_ok-values.ensures ∙ values_inside_are g.meta g.model c.args.o c.requires.valid c.args.found.now c.requires.found
