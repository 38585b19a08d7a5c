use Rattle.std.proofs.Common.{◌≡◌, ◌∙◌, [], ap, sym, true}
use Rattle.vt_model.specs.Linking.{stands, with_link}
use Rattle.vt_store.specs.Edits.{edit_of}
use Rattle.vt_store.specs.Inside.Displaced.{links_edit}
use Rattle.vt_store.proofs.Linking.Unlinking.{edit_of_unmade}
use Rattle.vt_store.proofs.relinking.unmake_link.Goals as goal

pub returns-clause-edit : goal.returns-clause-edit
returns-clause-edit c =
    let g = c.args.graph.now in
    let link = c.args.asked in
    let there : stands g.model link ≡ true = sym c.stands.ensures ∙ c.if-not-stands.false in
    let of : c.meta-2.result.now ≡ g.meta = c.meta-2.ensures.value ∙ c.drop_with_back.ensures.meta in
    let next : c.next.result ≡ g.model.next = c.next.ensures ∙ ap (λ m. m.next) c.drop_with_back.ensures.dropped in
    let added : c.new.result ≡ [] = c.new.ensures in
    let removed : c.from_vec.result ≡ with_link g.meta [] link =
    c.from_vec.ensures ∙ c.in_ok-removed.ensures ∙ ap (λ meta. with_link meta [] link) c.meta.ensures.value in
    let edit : edit_of g.model c.drop_with_back.new.graph.model ≡ links_edit g.model.next c.new.result c.from_vec.result =
    edit_of_unmade g.meta c.requires.sound link g.model c.requires.valid c.drop_with_back.new.graph.model c.new.result c.from_vec.result there c.drop_with_back.ensures.dropped added removed in
    c.of_links.ensures ∙ (λ i. record { meta = of i; edit = (ap (λ n. links_edit n c.new.result c.from_vec.result) next ∙ sym edit) i; waiting = [] })
