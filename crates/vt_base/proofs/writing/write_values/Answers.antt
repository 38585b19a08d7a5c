use Rattle.std.proofs.Common.{sym, ◌∙◌}
use Rattle.vt_base.proofs.WrittenLemmas.{OnErr-holds, OnErr-follows, AppendsFront-after, AppendsFront-before}
use Rattle.vt_base.proofs.FurtherLemmas.{AppendsFront-values}
use Rattle.vt_base.proofs.writing.write_values.Goals as goal

-- the first value was begun
pub returns-in_err-write_value-in-Some-clause-front : goal.returns-in_err-write_value-in-Some-clause-front
returns-in_err-write_value-in-Some-clause-front g c =
    OnErr-holds c.from_residual.result
    (AppendsFront-values (g.N.Names.enums c.args.names.now) (g.N.Names.objects c.args.names.now) c.args.t.now c.in-Some.first.now c.in-Some.rest.now (sym c.as_slice.ensures ∙ c.in-Some.ensures.cases.0) c.args.out.now c.write_value.new.out
    (AppendsFront-before c.args.out.now c.write_value.new.out _ _ c.in_err-write_value-in-Some.ensures.front))

-- the first value was written
pub returns-in_ok-write_value-in-Some-clause-front : goal.returns-in_ok-write_value-in-Some-clause-front
returns-in_ok-write_value-in-Some-clause-front g c =
    OnErr-follows c.write_further.result
    (λ begun. AppendsFront-values (g.N.Names.enums c.args.names.now) (g.N.Names.objects c.args.names.now) c.args.t.now c.in-Some.first.now c.in-Some.rest.now (sym c.as_slice.ensures ∙ c.in-Some.ensures.cases.0) c.args.out.now c.write_further.new.out
    (AppendsFront-after c.args.out.now c.write_value.new.out c.write_further.new.out _ _ c.in_ok-write_value-in-Some.ensures.added begun))
    c.write_further.ensures.front
