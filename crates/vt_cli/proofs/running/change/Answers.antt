use Rattle.std.proofs.Common.{codes, sym, subst}
use Rattle.vt_model.specs.Storable.{GivesStorable}
use Rattle.vt_session.specs.Buffers.{changed}
use Rattle.vt_script.specs.declared.line.Line.TheVariants as commands
use Rattle.vt_cli.specs.Inside.Begun.{Replies, Tells}
use Rattle.vt_cli.proofs.HeldLemmas.{held-changed}
use Rattle.vt_cli.proofs.ReplyLemmas.{IfOk-map, buffers_replied}
use Rattle.vt_cli.proofs.running.change.Goals as goal

-- a change more in the client's buffer, or why it isn't taken
pub returns-clause-reply : goal.returns-clause-reply
returns-clause-reply c =
    let client = c.args.client.now in
    let given = c.share.result in
    subst (λ edit. Replies (commands.Change client edit) c.args.session.now c.change-answer.new.self c.answered.result) c.share.ensures (λ state at.
    IfOk-map c.answered.result (Tells c.change-answer.result (codes "change") client) _
    (λ text tells. buffers_replied c.args.session.now c.change-answer.new.self c.change-answer.ensures.of (changed client given state.buffers) c.change-answer.result (codes "change") client text state at
    (λ made is. held-changed client given state.buffers made (subst GivesStorable (sym c.share.ensures) c.gives_storable.ensures) at.held is)
    (c.change-answer.ensures.done state at.stands) (c.change-answer.ensures.refused state at.stands) c.change-answer.ensures.unchanged tells) c.answered.ensures)
