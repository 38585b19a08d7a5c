use Rattle.std.proofs.Common.{◌≡◌, ◌∙◌, [], ap, ap₂}
use Rattle.std.specs.Prelude.{filter}
use Rattle.vt_model.specs.Linking.{is_dropped, with_link}
use Rattle.vt_store.specs.Inside.Displaced.{links_edit, without_back}
use Rattle.vt_store.proofs.Linking.Anew.{KeepsRoom-then, back_is_reverse, relinked_anew}
use Rattle.vt_store.proofs.Linking.Live.{ends_live_fits}
use Rattle.vt_store.proofs.relinking.relink.Goals as goal

pub add_with_back-requires-clause-live : goal.add_with_back-requires-clause-live
add_with_back-requires-clause-live c = ends_live_fits c.args.graph.now.meta c.args.graph.now.model c.requires.valid c.args.link c.requires.fits

pub returns-clause-made : goal.returns-clause-made
returns-clause-made c =
    let g = c.args.graph.now in
    c.drop_back.ensures.dropped ∙ back_is_reverse c.add_with_back.new.graph.model c.as_slice.result.now
    ∙ ap₂ without_back c.in_ok-add_with_back.ensures.added (c.as_slice.ensures.value ∙ c.in_ok-dropped.ensures)
    ∙ relinked_anew g.meta g.model c.requires.valid.links_rise c.args.link c.requires.fresh

pub returns-clause-edit : goal.returns-clause-edit
returns-clause-edit c =
    let g = c.args.graph.now in
    let link = c.args.link in
    let of : c.meta-2.result.now ≡ g.meta = c.meta-2.ensures.value ∙ c.drop_back.ensures.meta ∙ c.in_ok-add_with_back.ensures.meta in
    let next : c.next.result ≡ g.model.next = c.next.ensures ∙ ap (λ m. m.next) (returns-clause-made c) in
    let added : c.from_vec.result ≡ with_link g.meta [] link =
    c.from_vec.ensures ∙ c.in_ok-added.ensures ∙ ap (λ meta. with_link meta [] link) c.meta.ensures.value in
    let removed : c.from_vec-2.result ≡ filter (is_dropped g.meta link) g.model.links = c.from_vec-2.ensures ∙ c.in_ok-dropped.ensures in
    c.of_links.ensures ∙ (λ i. record { meta = of i; edit = links_edit (next i) (added i) (removed i); waiting = [] })

pub returns-clause-leaves : goal.returns-clause-leaves
returns-clause-leaves c = record { meta = c.drop_back.ensures.meta ∙ c.in_ok-add_with_back.ensures.meta; room = KeepsRoom-then _ _ _ c.in_ok-add_with_back.ensures.room c.drop_back.ensures.room }
