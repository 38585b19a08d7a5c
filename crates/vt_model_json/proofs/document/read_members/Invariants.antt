use Rattle.std.proofs.Common.{◌≡◌}
use Rattle.serde_json.specs.View.{members_view}
use Rattle.vt_facts.specs.Parts.{with_front}
use Rattle.vt_json.specs.Shape.{entries_in}
use Rattle.vt_model_json.proofs.document.read_members.Given as goal

-- the entries so far and those that the iterator has left are those of the whole
abbrev pub invariant-loop-key : goal.invariant-loop-key
invariant-loop-key g l =
    (goal.iterator-loop-key g).can_next l.key-iterator ×
    (goal.iterator-loop-key g).is_finite l.key-iterator ×
    (with_front l.entries (entries_in g.T.Shape.shape (members_view l.key-iterator)) ≡ entries_in g.T.Shape.shape (members_view l.members.entries))
