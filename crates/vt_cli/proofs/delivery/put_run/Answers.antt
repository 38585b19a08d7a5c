use Rattle.std.proofs.Common.{subst}
use Rattle.vt_cli.specs.Running.{IsRun}
use Rattle.vt_cli.specs.Inside.Begun.{ground_of, PutsReplies}
use Rattle.vt_cli.proofs.PutLemmas.{cut_put}
use Rattle.vt_cli.proofs.RunLemmas.{run_put, run_cut}
use Rattle.vt_cli.proofs.delivery.put_run.Goals as goal

-- the load couldn't be put
pub returns-in_err-put-clause-put : goal.returns-in_err-put-clause-put
returns-in_err-put-clause-put g c =
    let kept = c.args.run.session in
    let lines = c.args.run.lines in
    let old = g.K.Sink.written c.args.out.now in
    let mid = g.K.Sink.written c.put.new.self in
    cut_put (IsRun (ground_of kept) kept.model lines) c.from_residual.result old mid c.from_residual.ensures.0
    (run_cut kept lines c.requires.begun c.narrow_tables_stand.ensures old mid c.in_err-put.ensures.prefix)

-- the replies were put, or a front of them
pub returns-clause-put : goal.returns-clause-put
returns-clause-put g c =
    let kept = c.args.run.session in
    let lines = c.args.run.lines in
    let old = g.K.Sink.written c.args.out.now in
    let mid = g.K.Sink.written c.put.new.self in
    let new = g.K.Sink.written c.put_replies.new.out in
    run_put kept lines c.requires.begun c.put_replies.result old mid new c.in_ok-put.ensures.whole
    (subst (λ ls. PutsReplies ls kept c.put_replies.result mid new) c.as_slice.ensures c.put_replies.ensures.put)
