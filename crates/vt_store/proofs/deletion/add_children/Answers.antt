use Rattle.std.proofs.Common.{◌≡◌, ◌∙◌, ◌++◌, ap, subst}
use Rattle.std.specs.Prelude.{OnOk}
use Rattle.std.specs.List.{flat_map}
use Rattle.vt_slots.specs.Ends.{EndList}
use Rattle.vt_store.specs.Inside.Levels.{contained_in}
use Rattle.vt_store.proofs.Deleting.Sides.{children_outgoing}
use Rattle.vt_store.proofs.deletion.add_children.Goals as goal

pub returns : goal.returns
returns c =
    let g = c.args.graph.now in
    subst (λ l. OnOk c.add_contained.result (c.add_contained.new.found.items ≡ c.args.found.now.items ++ l))
    (ap (λ meta. flat_map (contained_in meta) c.ends.result.now) c.meta.ensures.value
    ∙ children_outgoing g.model c.args.p (λ (e : EndList). e.reference) (λ (e : EndList). e.objects) g.meta c.ends.result.now c.requires.valid.links_rise c.ends.ensures.references_rise c.ends.ensures.objects)
    c.add_contained.ensures
