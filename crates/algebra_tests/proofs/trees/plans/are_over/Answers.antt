use Rattle.std.proofs.Common.{◌≡◌, length, take, refl, sym, subst}
use Rattle.std.proofs.lemmas.List.{take_all}
use Rattle.std.proofs.lemmas.List.Elements.{All-more, All-same}
use Rattle.vt_base.specs.Base.{Counts}
use Rattle.vt_algebra.specs.Rows.{IsOver}
use Rattle.algebra_tests.proofs.trees.plans.are_over.Goals as goal

pub loop-op-preserved : goal.loop-op-preserved
loop-op-preserved c =
    let base = c.args.base.now in
    let counts : Counts = record { classes = length base.classes; attributes = length base.attributes; references = length base.references } in
    let asked : Counts = record { classes = c.len-classes.result; attributes = c.len-attributes.result; references = c.len.result } in
    let same : asked ≡ counts = λ i. record { classes = c.len-classes.ensures i; attributes = c.len-attributes.ensures i; references = c.len.ensures i } in
    All-more (IsOver counts) c.args.ops.now c.loop-op.op-index c.op-item.result c.loop-op-test.true
    c.loop-op.invariant (subst (IsOver counts) c.op-item.is (subst (λ k. IsOver k c.op-item.result) same (c.if-not-is_over.ensures.0 refl)))

pub returns : goal.returns
returns c _ =
    let base = c.args.base.now in
    let counts : Counts = record { classes = length base.classes; attributes = length base.attributes; references = length base.references } in
    let ops = c.args.ops.now in
    let i = c.loop-op.op-index in
    All-same (IsOver counts) ops (take i ops) (sym (take_all i ops c.loop-op-test.false)) c.loop-op.invariant
