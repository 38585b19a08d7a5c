use Rattle.std.proofs.Common.{◌≡◌, ◌<◌, ◌+◌, [], ◌∷◌, ◌++◌, true, false, drop, length, subst, sym, rules}
use Rattle.vt_model.specs.Metamodel.{isa}
use Rattle.vt_graph.specs.Inside.Planned.{above_from}
use Rattle.vt_graph.proofs.PlanLemmas.{above_with, above_without}
use Rattle.vt_graph.proofs.making.classes_above.Goals.{then-isa+in_ok-add, else-isa}
use Rattle.vt_graph.proofs.making.classes_above.Goals as goal

pub loop-d-preserved : goal.loop-d-preserved
loop-d-preserved c =
    let meta = c.args.meta.now in
    let class = c.args.c in
    let d = c.loop-d.d in
    let found = c.loop-d.above in
    let whole = above_from meta class 0 meta.classes in
    let few : d < length meta.classes = subst (λ n. d < n) c.loop-d.invariant.0 c.loop-d-test.true in (
      c.loop-d.invariant.0,
      elim c.if-isa.branch [
        | then-isa+in_ok-add w ↦
            let is : isa meta class (record { 0 = d }) ≡ true = cc in
            let more : c.if-isa.above ≡ found ++ record { 0 = d } ∷ [] = search rules in
            subst (λ now. now ++ above_from meta class (d + 1) (drop (d + 1) meta.classes) ≡ whole) (sym more)
            (above_with meta class d meta.classes found whole few c.loop-d.invariant.1 is)
        | else-isa w ↦
            let is : isa meta class (record { 0 = d }) ≡ false = cc in
            let same : c.if-isa.above ≡ found = cc in
            subst (λ now. now ++ above_from meta class (d + 1) (drop (d + 1) meta.classes) ≡ whole) (sym same)
            (above_without meta class d meta.classes found whole few c.loop-d.invariant.1 is)
      ],
    )
