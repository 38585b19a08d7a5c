use Rattle.std.proofs.Common.{◌≡◌, subst, ◌∙◌}
use Rattle.std.specs.Prelude.{replicate}
use Rattle.vt_delta.specs.Deltas.{changes_of, no_change}
use Rattle.run_tests.proofs.SampleLemmas.{IsNet-nothing}
use Rattle.run_tests.proofs.session.library.nothing.Goals as goal

pub returns : goal.returns
returns c =
    let none = c.none.result in
    IsNet-nothing c.args.meta.now none
    (subst (λ n. changes_of none.classes ≡ replicate n no_change) (c.from-classes.ensures ∙ c.class_count.ensures) c.none.ensures.classes)
    (subst (λ n. changes_of none.attributes ≡ replicate n no_change) (c.from-attributes.ensures ∙ c.attr_count.ensures) c.none.ensures.attributes)
    (subst (λ n. changes_of none.references ≡ replicate n no_change) (c.from-references.ensures ∙ c.ref_count.ensures) c.none.ensures.references)
