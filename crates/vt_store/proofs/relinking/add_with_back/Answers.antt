use Rattle.std.proofs.Common.{◌≡◌, ◌∙◌, ap, rules}
use Rattle.std.specs.Prelude.{Some}
use Rattle.vt_model.specs.Model.{Model}
use Rattle.vt_model.specs.Linking.{link_back}
use Rattle.vt_store.specs.Inside.Displaced.{with_one, without_link}
use Rattle.vt_store.proofs.Linking.Coming.{opposite_fresh}
use Rattle.vt_store.proofs.Linking.Anew.{without_link_with_one}
use Rattle.vt_store.proofs.relinking.add_with_back.Goals as goal

-- neither the link nor its opposite stands
pub add_link-requires-clause-fresh : goal.add_link-requires-clause-fresh
add_link-requires-clause-fresh c = c.requires.fresh.itself

pub add_link-requires-2-clause-fresh : goal.add_link-requires-2-clause-fresh
add_link-requires-2-clause-fresh c =
    let g = c.args.graph.now in
    let at : link_back g.meta c.args.link ≡ Some c.in-Some.back = search rules in
    opposite_fresh g.meta c.requires.sound g.model c.args.link c.in-Some.back c.requires.fresh at _ (ap (λ (m : Model). m.links) c.in_ok-add_link.ensures.added)

pub returns-in-Err-clause-unchanged : goal.returns-in-Err-clause-unchanged
returns-in-Err-clause-unchanged c =
    let g = c.args.graph.now.model in
    let link = c.args.link in
    let back : c.drop_link.new.self.model ≡ without_link (with_one g link) link = search rules in
    back ∙ without_link_with_one g link c.requires.valid.links_rise c.requires.fresh.itself
