use Rattle.std.proofs.Common.{◌≡◌, ◌∙◌, [], ◌∷◌, fold, reverse, ap, sym}
use Rattle.std.proofs.lemmas.List.{reverse-append}
use Rattle.vt_store.specs.Inside.Displaced.{without_link}
use Rattle.vt_store.proofs.Linking.Anew.{KeepsRoom-then}
use Rattle.vt_store.proofs.relinking.drop_back.Goals as goal

pub loop-link-preserved : goal.loop-link-preserved
loop-link-preserved c =
    let before = c.loop-link.graph.model in
    let link = c.in-Some.link.now in
    let rest = c.next.new.self.iter.rest.now in
    let one : c.drop_link.new.self.model ≡ without_link before link = c.drop_link.ensures.dropped in
    let steps = c.in-Some.ensures.steps in
    let dropped : fold without_link c.drop_link.new.self.model (reverse rest) ≡ fold without_link c.args.graph.now.model (reverse c.args.gone.now) =
    ap (λ m. fold without_link m (reverse rest)) one
    ∙ sym (ap (fold without_link before) (ap reverse steps ∙ reverse-append rest (link ∷ [])))
    ∙ c.loop-link.invariant.1 in
    (c.drop_link.ensures.meta ∙ c.loop-link.invariant.0, dropped, KeepsRoom-then _ _ _ c.loop-link.invariant.2 c.drop_link.ensures.room)
