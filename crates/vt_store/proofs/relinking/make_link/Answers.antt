use Rattle.std.proofs.Common.{◌≡◌, ◌∙◌, [], ap, sym, false, refl}
use Rattle.std.specs.Prelude.{filter}
use Rattle.vt_model.specs.Linking.{is_dropped, oriented, stands, with_link}
use Rattle.vt_store.specs.Edits.{edit_of}
use Rattle.vt_store.specs.Inside.Displaced.{links_edit}
use Rattle.vt_store.proofs.Linking.LinkEdits.{edit_of_made}
use Rattle.vt_store.proofs.relinking.make_link.Goals as goal

pub returns-clause-edit : goal.returns-clause-edit
returns-clause-edit c =
    let g = c.args.graph.now in
    let link = c.oriented-link.result in
    let none : stands g.model c.args.asked ≡ false = sym c.stands.ensures ∙ c.if-stands.false in
    let is : link ≡ oriented g.meta c.args.asked = c.oriented-link.ensures ∙ ap (λ meta. oriented meta c.args.asked) c.meta.ensures.value in
    let edit : edit_of g.model c.relink.new.graph.model ≡ links_edit g.model.next (with_link g.meta [] link) (filter (is_dropped g.meta link) g.model.links) =
    edit_of_made g.meta g.model c.args.asked c.requires.sound c.requires.valid c.relink.new.graph.model link _ _ is none c.in_ok-relink.ensures.made refl refl in
    c.in_ok-relink.ensures.edit ∙ (λ i. record { meta = g.meta; edit = sym edit i; waiting = [] })
