use Rattle.std.proofs.Common.{sym, ◌∙◌, Some}
use Rattle.vt_resolve.specs.Choice.{is_passed}
use Rattle.vt_resolve.specs.Entries.{by_match}
use Rattle.vt_resolve.specs.Inside.EntryLaws.{match_total, match_exact}
use Rattle.vt_resolve.proofs.LeastLemmas.{turn_found, turn_none}
use Rattle.vt_resolve.proofs.turns.in_turn.Goals as goal

-- a rule after the last has an entry
pub returns-in-Some : goal.returns-in-Some
returns-in-Some c = sym (turn_found by_match match_total match_exact (is_passed (Some c.args.last)) c.args.held.now.items c.ascend.ensures _ (sym c.in-Some.ensures))

-- none has
pub returns-in-None : goal.returns-in-None
returns-in-None c =
    c.first.ensures.value
    ∙ sym (turn_none by_match match_total match_exact (is_passed (Some c.args.last)) c.args.held.now.items c.ascend.ensures (sym c.in-None.ensures))
