use Rattle.std.proofs.Common.{◌∙◌, ◌+◌, [], List, drop, subst}
use Rattle.std.specs.Io.KnownBytes.{Appends}
use Rattle.std.proofs.lemmas.List.{drop_all}
use Rattle.vt_outside.specs.Sink.{AppendsPrefix}
use Rattle.vt_script.specs.declared.line.Line.{Line}
use Rattle.vt_cli.specs.Running.{Answered}
use Rattle.vt_cli.specs.Inside.Begun.{ground_of, AreBuilt}
use Rattle.vt_cli.proofs.PutLemmas.{cut_put, calm_put}
use Rattle.vt_cli.proofs.RunLemmas.{HasAnswered, IsOfOne-then, split_at, answered_more, all_answered, cut_before, cut_within}
use Rattle.vt_cli.proofs.running.put_replies.Goals as goal

-- memory ran out: nothing of this reply was put, and what was put is a front of a text that is due
pub returns-in_err-text-clause-put : goal.returns-in_err-text-clause-put
returns-in_err-text-clause-put g c = λ state at.
    let first = c.args.session.now in
    let lines = c.args.lines.now in
    let i = c.loop-line.line-index in
    let old = g.K.Sink.written c.args.out.now in
    let mid = g.K.Sink.written c.loop-line.out in
    cut_put (Answered (ground_of first) lines state) c.from_residual.result old mid c.from_residual.ensures.0
    (cut_before first at.narrow c.narrow_tables_stand.ensures c.loop-line.session c.loop-line.invariant.one lines (drop i lines) old mid i state
    c.loop-line.invariant.built (c.loop-line.invariant.so_far state at))

-- a front of this reply was put
pub returns-in_err-put-clause-put : goal.returns-in_err-put-clause-put
returns-in_err-put-clause-put g c = λ state at.
    let first = c.args.session.now in
    let lines = c.args.lines.now in
    let i = c.loop-line.line-index in
    let rest = drop (i + 1) lines in
    let line = c.line-item.result in
    let split = split_at lines i line c.loop-line-test.true c.line-item.is in
    let old = g.K.Sink.written c.args.out.now in
    let mid = g.K.Sink.written c.loop-line.out in
    let new = g.K.Sink.written c.put.new.self in
    cut_put (Answered (ground_of first) lines state) c.from_residual-in_err-put.result old new c.from_residual-in_err-put.ensures.0
    (cut_within first at.narrow c.narrow_tables_stand.ensures c.loop-line.session c.loop-line.invariant.one lines rest old mid i state line
    ((subst AreBuilt split c.loop-line.invariant.built).1)
    (subst (λ ls. HasAnswered first c.loop-line.session lines ls old mid i state) split (c.loop-line.invariant.so_far state at))
    c.reply.new.session c.reply.ensures.of c.in_ok-text.text c.in_ok-text.ensures.reply new
    (subst (AppendsPrefix mid new) c.as_slice.ensures c.in_err-put.ensures.prefix))

-- one command more was answered
pub loop-line-preserved : goal.loop-line-preserved
loop-line-preserved g c =
    let first = c.args.session.now in
    let lines = c.args.lines.now in
    let i = c.loop-line.line-index in
    let rest = drop (i + 1) lines in
    let line = c.line-item.result in
    let split = split_at lines i line c.loop-line-test.true c.line-item.is in
    let old = g.K.Sink.written c.args.out.now in
    let mid = g.K.Sink.written c.loop-line.out in
    let new = g.K.Sink.written c.put.new.self in
    record {
      built = (subst AreBuilt split c.loop-line.invariant.built).1;
      one = IsOfOne-then first c.loop-line.session c.reply.new.session c.loop-line.invariant.one c.reply.ensures.of;
      calm = calm_put c.in_ok-put.field-0 _ _ c.in_ok-put.ensures.cause ∙ c.loop-line.invariant.calm;
      so_far = λ state at.
          answered_more first c.loop-line.session c.loop-line.invariant.one lines rest old mid i state line
          (subst (λ ls. HasAnswered first c.loop-line.session lines ls old mid i state) split (c.loop-line.invariant.so_far state at))
          c.reply.new.session c.in_ok-text.text c.in_ok-text.ensures.reply new (subst (Appends mid new) c.as_slice.ensures c.in_ok-put.ensures.whole);
    }

-- all commands were answered
pub returns-clause-put : goal.returns-clause-put
returns-clause-put g c = λ state at.
    let first = c.args.session.now in
    let lines = c.args.lines.now in
    let old = g.K.Sink.written c.args.out.now in
    let mid = g.K.Sink.written c.loop-line.out in
    let none : List Line = [] in
    all_answered first c.loop-line.session c.loop-line.invariant.one lines none old mid c.loop-line.line-index state
    (subst (λ ls. HasAnswered first c.loop-line.session lines ls old mid c.loop-line.line-index state) (drop_all c.loop-line.line-index lines c.loop-line-test.false) (c.loop-line.invariant.so_far state at))
