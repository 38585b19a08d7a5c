use Rattle.std.proofs.Common.{codes}
use Rattle.vt_session.specs.Buffers.{aborted}
use Rattle.vt_session.specs.Session.{IsDenied}
use Rattle.vt_cli.specs.Inside.Begun.{Tells}
use Rattle.vt_cli.proofs.HeldLemmas.{held-aborted}
use Rattle.vt_cli.proofs.ReplyLemmas.{IfOk-map, IfErr-map, denied_not_open, buffers_replied}
use Rattle.vt_cli.proofs.running.abort.Goals as goal

-- the client's buffer goes, or there is none
pub returns-clause-reply : goal.returns-clause-reply
returns-clause-reply c = λ state at.
    let client = c.args.client.now in
    let due = aborted client state.buffers in
    IfOk-map c.answered.result (Tells c.abort-answer.result (codes "abort") client) _
    (λ text tells. buffers_replied c.args.session.now c.abort-answer.new.self c.abort-answer.ensures.of due c.abort-answer.result (codes "abort") client text state at
    (λ made is. held-aborted client state.buffers made at.held is)
    (c.abort-answer.ensures.done state at.stands)
    (IfErr-map c.abort-answer.result _ (λ why. IsDenied why due) (denied_not_open due) (c.abort-answer.ensures.refused state at.stands))
    c.abort-answer.ensures.unchanged tells) c.answered.ensures
