use Rattle.std.proofs.Common.{sym, ap, ◌∙◌, false}
use Rattle.vt_resolve.specs.Choice.{is_passed}
use Rattle.vt_resolve.specs.Entries.{by_match}
use Rattle.vt_resolve.specs.Inside.EntryLaws.{match_total, match_exact}
use Rattle.vt_resolve.proofs.LeastLemmas.{turn_same}
use Rattle.vt_resolve.proofs.turns.TurnsResolver.pick.Goals as goal

-- no rule has fired, so that none has had its turn
pub returns-in-None : goal.returns-in-None
returns-in-None c =
    rw (← c.self.view_is) (c.first.ensures.value
    ∙ sym (turn_same by_match match_total match_exact (is_passed c.self.inside.last) false c.self.inside.held.items c.first.ensures.ascends
    (λ f _. ap (λ l. is_passed l f) c.in-None.is)))
