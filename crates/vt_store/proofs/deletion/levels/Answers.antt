use Rattle.std.proofs.Common.{◌∙◌, ◌≡◌, ap, arith, length}
use Rattle.std.proofs.lemmas.Bool.Decides.{nat_tests}
use Rattle.vt_store.specs.Inside.Levels.{level_below}
use Rattle.vt_store.proofs.Deleting.Levels.{levels_more, levels_done}
use Rattle.vt_store.proofs.deletion.levels.Goals as goal

pub returns-then-is_empty : goal.returns-then-is_empty
returns-then-is_empty c =
    let g = c.args.graph.now in
    let empty : length c.loop.level.items ≡ 0 = grind (arith, nat_tests) in
    levels_done g.meta g.model _ _ _ _ c.loop.invariant empty

pub loop-preserved : goal.loop-preserved
loop-preserved c =
    let g = c.args.graph.now in
    levels_more g.meta g.model _ _ _ c.loop.level.items _ _ _ c.loop-test.true c.loop.invariant c.in_ok-append.ensures.items
    (c.in_ok-below.ensures ∙ ap (level_below g.meta g.model) c.as_slice.ensures.value)
