use Rattle.std.proofs.Common.{◌≡◌, drop}
use Rattle.vt_session.specs.Run.{State}
use Rattle.vt_session.specs.Session.{IsOfOne}
use Rattle.vt_cli.specs.Inside.Begun.{IsAt, AreBuilt}
use Rattle.vt_cli.proofs.RunLemmas.{HasAnswered}
use Rattle.vt_cli.proofs.running.put_replies.Given as goal

-- from each state the commands before these were answered, and no put failed
abbrev pub invariant-loop-line : goal.invariant-loop-line
invariant-loop-line g l = record {
  built : AreBuilt (drop l.line-index l.lines);
  one : IsOfOne l.fn.session l.session;
  calm : g.K.Sink.faults l.out ≡ g.K.Sink.faults l.fn.out;
  so_far :
      (state : State) → IsAt l.fn.session state
      → HasAnswered l.fn.session l.session l.fn.lines (drop l.line-index l.lines) (g.K.Sink.written l.fn.out) (g.K.Sink.written l.out) l.line-index state;
}
