use Rattle.std.proofs.Common.{◌≡◌, true, None, rules}
use Rattle.vt_model.specs.Linking.{is_containment}
use Rattle.vt_slots.specs.Ends.{EndList}
use Rattle.vt_store.specs.Inside.Displaced.{holder_in}
use Rattle.vt_store.proofs.Linking.Childless.{circular_childless}
use Rattle.vt_store.proofs.relinking.is_circular.Goals as goal

-- what is to go into the other contains nothing
pub returns-then-is_none : goal.returns-then-is_none
returns-then-is_none c =
    let g = c.args.graph.now in
    let link = c.args.link.now in
    let contains : is_containment g.meta link.reference ≡ true = search rules in
    let held : holder_in (λ (e : EndList). e.reference) (λ e. e.objects) g.meta c.ends.result.now ≡ None = search rules in
    let same = circular_childless g.meta g.model c.requires.valid link c.ends.result.now c.ends.ensures.references_rise c.ends.ensures.objects contains held in
    cc
