use Rattle.vt_base.proofs.WrittenLemmas.{OnErr-holds}
use Rattle.vt_base.proofs.FurtherLemmas.{AppendsFront-at}
use Rattle.vt_base.proofs.writing.write_further.Goals as goal

-- the values so far were written, and the next begun
pub returns-in_err-write_next-clause-front : goal.returns-in_err-write_next-clause-front
returns-in_err-write_next-clause-front g c =
    OnErr-holds c.from_residual.result
    (AppendsFront-at (g.N.Names.enums c.args.names.now) (g.N.Names.objects c.args.names.now) c.args.values.now c.loop-value.value-index c.value-item.result c.loop-value-test.true c.value-item.is c.args.out.now c.loop-value.out c.write_next.new.out c.loop-value.invariant.1 c.in_err-write_next.ensures.front)
