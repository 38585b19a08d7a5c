use Rattle.std.proofs.Common.{◌∙◌}
use Rattle.vt_base.proofs.WrittenLemmas.{OnErr-follows, OnErr-holds, AppendsFront-first, AppendsFront-second}
use Rattle.vt_base.proofs.writing.write_pieces.Goals as goal

-- the first piece was written
pub returns-in_err-extend-2-clause-front : goal.returns-in_err-extend-2-clause-front
returns-in_err-extend-2-clause-front c =
    OnErr-holds c.from_residual-in_err-extend-2.result
    (AppendsFront-first c.args.out.now c.extend-2.new.self c.args.a.now c.args.b.now c.args.c.now (c.in_err-extend-2.ensures.unchanged ∙ c.in_ok-extend.ensures.added))

-- the first two pieces were written
pub returns-clause-front : goal.returns-clause-front
returns-clause-front c =
    OnErr-follows c.extend-3.result
    (λ same. AppendsFront-second c.args.out.now c.extend.new.self c.extend-3.new.self c.args.a.now c.args.b.now c.args.c.now c.in_ok-extend.ensures.added (same ∙ c.in_ok-extend-2.ensures.added))
    c.extend-3.ensures.unchanged
