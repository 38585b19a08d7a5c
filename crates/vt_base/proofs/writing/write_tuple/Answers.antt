use Rattle.std.proofs.Common.{◌∙◌}
use Rattle.std.specs.Prelude.{codes}
use Rattle.vt_base.proofs.WrittenLemmas.{OnErr-holds, OnErr-follows, AppendsFront-after, AppendsFront-before, AppendsFront-second}
use Rattle.vt_base.proofs.writing.write_tuple.Goals as goal

-- the values were begun
pub returns-in_err-write_values-clause-front : goal.returns-in_err-write_values-clause-front
returns-in_err-write_values-clause-front g c =
    OnErr-holds c.from_residual-in_err-write_values.result
    (AppendsFront-after c.args.out.now c.extend.new.self c.write_values.new.out (codes "(") _ c.in_ok-extend.ensures.added
    (AppendsFront-before c.extend.new.self c.write_values.new.out _ (codes ")") c.in_err-write_values.ensures.front))

-- all but the last bracket was written
pub returns-clause-front : goal.returns-clause-front
returns-clause-front g c =
    OnErr-follows c.extend-2.result
    (λ same. AppendsFront-second c.args.out.now c.extend.new.self c.extend-2.new.self (codes "(") _ (codes ")") c.in_ok-extend.ensures.added (same ∙ c.in_ok-write_values.ensures.added))
    c.extend-2.ensures.unchanged
