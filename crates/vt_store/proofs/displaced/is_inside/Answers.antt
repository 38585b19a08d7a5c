use Rattle.std.proofs.Common.{◌≡◌, ◌-◌, ap, ◌∙◌, arith}
use Rattle.vt_model.specs.Containing.{is_within}
use Rattle.vt_store.proofs.Linking.Enough.{within_all}
use Rattle.vt_store.proofs.displaced.is_inside.Goals as goal

pub loop-init : goal.loop-init
loop-init c =
    let g = c.args.graph.now in
    let all : c.next-end.result - 0 ≡ c.next-end.result = omega arith in
    ap (λ n. is_within g.meta g.model n c.args.o c.args.outer) (all ∙ c.next-end.ensures)
    ∙ within_all g.meta g.model c.requires.valid c.args.o c.args.outer
