use Rattle.vt_base.specs.declared.agenda.Policy.TheVariants.{Fixed, Inverted, Oldest, Turns}
use Rattle.vt_resolve.specs.Choice.{by_turn, is_passed}
use Rattle.vt_resolve.specs.Entries.{by_match, by_priority, by_signed, by_age}
use Rattle.vt_resolve.specs.Inside.EntryLaws.{match_total, match_exact, priority_total, priority_exact, signed_total, signed_exact, age_total, age_exact}
use Rattle.vt_resolve.proofs.LeastLemmas.{none_found, turned_total, turned_exact}
use Rattle.vt_resolve.proofs.laws.one_of_some_is_chosen.Goals as goal

pub returns : goal.returns
returns c Fixed last entries e = none_found by_priority priority_total priority_exact entries e
returns c Inverted last entries e = none_found by_signed signed_total signed_exact entries e
returns c Oldest last entries e = none_found by_age age_total age_exact entries e
returns c Turns last entries e =
    none_found (by_turn last) (turned_total by_match match_total match_exact (is_passed last))
    (turned_exact by_match match_total match_exact (is_passed last)) entries e
