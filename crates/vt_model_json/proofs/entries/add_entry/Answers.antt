use Rattle.std.proofs.Common.{ap, ◌∙◌}
use Rattle.vt_model_json.specs.Inside.Entries.{entry_members}
use Rattle.vt_model_json.proofs.EntryLemmas.{members_inserted}
use Rattle.vt_model_json.proofs.entries.add_entry.Goals as goal

-- the entry that is inserted goes to its name
pub returns : goal.returns
returns g c = λ means.
    ap (entry_members (λ k. k.now) means) c.in_ok-insert.ensures.entries
    ∙ members_inserted (λ k. k.now) means c.args.entries.now.entries c.args.key c.args.item
