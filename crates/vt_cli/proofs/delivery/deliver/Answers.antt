use Rattle.std.proofs.Common.{refl, sym, subst}
use Rattle.vt_cli.specs.Result.{IsTold, done}
use Rattle.vt_cli.specs.Inside.Prepared.{Delivers}
use Rattle.vt_cli.specs.Inside.Begun.{ComesTo}
use Rattle.vt_cli.proofs.PutLemmas.{Delivers-put}
use Rattle.vt_cli.proofs.delivery.deliver.Goals as goal

-- the text of the run
pub returns-in-Begun-clause-delivered : goal.returns-in-Begun-clause-delivered
returns-in-Begun-clause-delivered g c =
    let run = c.in-Begun.run' in
    let text = c.put_run.ensures.put in
    let outcome = done text.0 in
    let told : IsTold (record { meta = run.session.meta; model = run.session.model }) run.session.program run.lines outcome = record { text = text.0; run = text.1; is = refl } in (
      outcome,
      subst (λ prepared. ComesTo prepared outcome) (sym c.in-Begun.is) told,
      subst (λ ending. Delivers outcome ending (g.K.Sink.faults c.args.out.now) (g.K.Sink.faults c.put_run.new.out) (g.K.Sink.written c.args.out.now) (g.K.Sink.written c.put_run.new.out))
          (sym c.ended-in-Begun.ensures) (Delivers-put outcome c.put_run.result _ _ _ _ text.2 c.put_run.ensures.cause),
    )
