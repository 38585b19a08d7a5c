use Rattle.std.proofs.Common.{◌∙◌, ◌++◌, ap}
use Rattle.vt_cli.proofs.EventLemmas.{event_rows_set}
use Rattle.vt_cli.proofs.ReplyLemmas.{IfOk-map}
use Rattle.vt_cli.proofs.events.event_rows.Goals as goal

-- the set of all that happened
pub returns : goal.returns
returns c =
    let e = c.args.events.now in
    IfOk-map c.from_vec.result _ _
    (λ rows set. event_rows_set e c.into_vec.result.items rows.items
    (c.into_vec.ensures ∙ c.in_ok-add_rows-3.ensures
    ∙ ap (λ x. x ++ e.updated.items) (c.in_ok-add_rows-2.ensures
    ∙ ap (λ x. x ++ e.removed.items) (c.in_ok-add_rows.ensures ∙ ap (λ x. x ++ e.added.items) c.new-all.ensures))) set) c.from_vec.ensures
