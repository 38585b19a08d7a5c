use Rattle.std.proofs.Common.{◌≡◌, ◌+◌, [], ◌∷◌, ◌++◌, subst, sym, rules, arith, ◌∙◌}
use Rattle.vt_graph.proofs.PlanLemmas.{HasEach, no_objects, has_each_push, are_listings, is_no_objects}
use Rattle.vt_graph.proofs.making.empty_listings.Goals as goal

pub loop-preserved : goal.loop-preserved
loop-preserved c =
    let before = c.loop.listings.items in
    let n = c.loop.counter in
    let added : c.push.new.self.items ≡ before ++ c.new.result ∷ [] = search rules in (
      c.loop.invariant.0,
      subst (λ items. HasEach no_objects items (n + 1)) (sym added)
          (has_each_push no_objects before n c.new.result c.loop.invariant.1 (c.new.ensures ∙ is_no_objects (record { 0 = n }))),
    )

pub returns : goal.returns
returns c =
    let done : c.loop.counter ≡ c.class_count-end.result = omega arith in
    are_listings c.args.meta.now c.loop.listings.items c.loop.counter c.loop.invariant.1 (done ∙ c.loop.invariant.0)
