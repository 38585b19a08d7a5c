use Rattle.std.proofs.Common.{◌≡◌, ◌∙◌, ap, sym}
use Rattle.std.specs.Prelude.{Some}
use Rattle.vt_model.specs.Linking.{link_back}
use Rattle.vt_store.specs.Inside.Displaced.{without_link}
use Rattle.vt_store.proofs.Linking.Unlinking.{unlinked_both}
use Rattle.vt_store.proofs.relinking.drop_with_back.Goals as goal

pub returns-in-Some-clause-dropped : goal.returns-in-Some-clause-dropped
returns-in-Some-clause-dropped c =
    let g = c.args.graph.now in
    let link = c.args.link in
    let of : c.meta.result.now ≡ g.meta = c.meta.ensures.value ∙ c.drop_link.ensures.meta in
    let at : link_back g.meta link ≡ Some c.in-Some.back = sym (c.link_back.ensures ∙ ap (λ m. link_back m link) of) ∙ c.in-Some.is in
    c.drop_link-in-Some.ensures.dropped
    ∙ ap (λ m. without_link m c.in-Some.back) c.drop_link.ensures.dropped
    ∙ unlinked_both g.meta c.requires.sound link g.model c.in-Some.back at
