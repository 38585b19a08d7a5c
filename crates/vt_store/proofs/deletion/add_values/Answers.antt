use Rattle.std.proofs.Common.{◌≡◌, ◌++◌, subst}
use Rattle.std.specs.Prelude.{OnOk}
use Rattle.vt_store.proofs.Deleting.Values.{values_held}
use Rattle.vt_store.proofs.deletion.add_values.Goals as goal

pub returns : goal.returns
returns c =
    let g = c.args.graph.now in
    subst (λ l. OnOk c.add_places.result (c.add_places.new.values.items ≡ c.args.values.now.items ++ l))
    (values_held g.model c.args.x c.values.result.now c.requires.valid.values_rise c.values.ensures.rises c.values.ensures.value)
    c.add_places.ensures
