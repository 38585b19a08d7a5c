use Rattle.std.proofs.Common.{◌≡◌, ap, ◌∙◌}
use Rattle.vt_slots.specs.Ends.{EndList}
use Rattle.vt_store.specs.Inside.Displaced.{candidates}
use Rattle.vt_store.proofs.Linking.Both.{displaced_is}
use Rattle.vt_store.proofs.displaced.displaced.Goals as goal

pub returns : goal.returns
returns c =
    let g = c.args.graph.now in
    let made = c.args.made.now in
    let targets = c.others.result.now in
    let sources = c.others-2.result.now in
    let lists = c.ends.result.now in
    let is : c.in_ok-found.found.items ≡ candidates (λ (e : EndList). e.reference) (λ e. e.objects) g.meta made targets sources lists =
    c.in_ok-found.ensures ∙ ap (λ meta. candidates (λ (e : EndList). e.reference) (λ e. e.objects) meta made targets sources lists) c.meta.ensures.value in
    displaced_is g.meta c.requires.sound g.model c.requires.valid made (λ (e : EndList). e.reference) (λ e. e.objects) targets sources lists _ _
    is c.arrange.ensures c.others.ensures.value c.others-2.ensures.value c.ends.ensures.references_rise c.ends.ensures.objects
