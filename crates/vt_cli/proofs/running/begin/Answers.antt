use Rattle.std.proofs.Common.{codes}
use Rattle.vt_session.specs.Buffers.{begun}
use Rattle.vt_cli.specs.Inside.Begun.{Tells}
use Rattle.vt_cli.proofs.HeldLemmas.{held-begun}
use Rattle.vt_cli.proofs.ReplyLemmas.{IfOk-map, buffers_replied}
use Rattle.vt_cli.proofs.running.begin.Goals as goal

-- a buffer more, or why there is none
pub returns-clause-reply : goal.returns-clause-reply
returns-clause-reply c = λ state at.
    let client = c.args.client.now in
    IfOk-map c.answered.result (Tells c.begin-answer.result (codes "begin") client) _
    (λ text tells. buffers_replied c.args.session.now c.begin-answer.new.self c.begin-answer.ensures.of (begun client state.buffers) c.begin-answer.result (codes "begin") client text state at
    (λ made is. held-begun client state.buffers made at.held is)
    (c.begin-answer.ensures.done state at.stands) (c.begin-answer.ensures.refused state at.stands) c.begin-answer.ensures.unchanged tells) c.answered.ensures
