use Rattle.std.proofs.Common.{◌++◌, ap, ◌∙◌}
use Rattle.vt_store.specs.Inside.Displaced.{with_opposite}
use Rattle.vt_store.proofs.Linking.Both.{arranged_both}
use Rattle.vt_store.proofs.relinking.both.Goals as goal

pub returns : goal.returns
returns c =
    let meta = c.args.meta.now in
    arranged_both meta c.args.link _ _
    (c.in_ok-add_both.ensures ∙ ap (λ first. first ++ with_opposite meta c.args.link) c.new-links.ensures.items) c.arrange.ensures
