use Rattle.std.specs.Prelude.{codes}
use Rattle.vt_base.specs.Written.{value_text}
use Rattle.vt_base.proofs.WrittenLemmas.{OnErr-follows, AppendsFront-after}
use Rattle.vt_base.proofs.writing.write_next.Goals as goal

-- the comma and the space were written
pub returns-clause-front : goal.returns-clause-front
returns-clause-front g c =
    OnErr-follows c.write_value.result
    (AppendsFront-after c.args.out.now c.extend.new.self c.write_value.new.out (codes ", ") (value_text (g.N.Names.enums c.args.names.now) (g.N.Names.objects c.args.names.now) c.args.value.now) c.in_ok-extend.ensures.added)
    c.write_value.ensures.front
