-- The lines of events, over what happened to each pattern's matches.
use Rattle.std.specs.Prelude.{ℕ, List, [], ◌∷◌, ◌++◌, flat_map, fold, codes, if◌then◌else◌}
use Rattle.vt_sorted.specs.Ascending.{with_item}
use Rattle.vt_base.specs.Order.{tuple_cmp}
use Rattle.vt_base.specs.Rows.{has_row}
use Rattle.vt_base.specs.Written.{tuple_text}
use Rattle.vt_base.specs.declared.value.Value.{Value}
use Rattle.vt_query.specs.declared.program.Pattern.{Pattern}
use Rattle.vt_history.specs.declared.report.PatternEvents.{PatternEvents}
use Rattle.vt_cli.specs.Replies.{Names}

-- the tuples that something happened to
abbrev pub happened : PatternEvents → List (List Value)
happened events = events.added.items ++ events.removed.items ++ events.updated.items

-- their set
abbrev pub event_rows : PatternEvents → List (List Value)
event_rows events = fold (with_item tuple_cmp) [] (happened events)

abbrev pub mark : PatternEvents → List Value → List ℕ
mark events row =
    if has_row events.added.items row then codes "+ "
    else if has_row events.removed.items row then codes "- "
    else codes "~ "

abbrev pub marked_line : Names → Pattern → PatternEvents → List Value → List ℕ
marked_line names p events row = codes "  " ++ mark events row ++ p.name ++ tuple_text names.enums names.objects row ++ codes "\n"

abbrev pub marked_lines : Names → Pattern → PatternEvents → List ℕ
marked_lines names p events = if p.shown then flat_map (marked_line names p events) (event_rows events) else []

-- those of the patterns in their order
abbrev pub all_marked : Names → List Pattern → List PatternEvents → List ℕ
all_marked names (p ∷ patterns) (e ∷ events) = marked_lines names p e ++ all_marked names patterns events
all_marked names patterns events = []
