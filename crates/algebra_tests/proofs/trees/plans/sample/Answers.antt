use Rattle.std.proofs.Common.{◌≡◌, ◌∙◌, List, [], ◌∷◌, ◌++◌, ap, sym, subst}
use Rattle.vt_base.specs.declared.numbers.PatternId.{PatternId}
use Rattle.vt_algebra.specs.declared.op.Op.{Op}
use Rattle.vt_algebra.specs.Plans.{Planned, IsPlan}
use Rattle.algebra_tests.proofs.SampleLemmas.{first, second, objects, read, sample_trees, sample_order, sample_is}
use Rattle.algebra_tests.proofs.trees.plans.sample.Goals as goal

-- the plan is the sample
pub new-requires : goal.new-requires
new-requires g c =
    let trees : c.add-2.new.self ≡ sample_trees = c.in_ok-add-2.ensures.added ∙ ap (λ (l : List Op). l ++ objects ∷ []) (c.in_ok-add.ensures.added ∙ ap (λ (l : List Op). l ++ read ∷ []) c.new-ops.ensures) in
    let order : c.add-4.new.self ≡ sample_order = c.in_ok-add-4.ensures.added ∙ ap (λ (l : List PatternId). l ++ first ∷ []) (c.in_ok-add-3.ensures.added ∙ ap (λ (l : List PatternId). l ++ second ∷ []) c.new-order.ensures) in
    let same : record { trees = sample_trees; order = sample_order } ≡ record { trees = c.add-2.new.self; order = c.add-4.new.self } = λ i. record { trees = sym trees i; order = sym order i } in
    subst IsPlan same sample_is
