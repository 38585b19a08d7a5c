use Rattle.std.proofs.Common.{◌≡◌, drop}
use Rattle.serde_json.specs.Data.{no_members}
use Rattle.vt_model_json.specs.Dump.{links_of}
use Rattle.vt_model_json.specs.Inside.Entries.{entry_members, names_data}
use Rattle.vt_model_json.specs.Inside.Plan.{members_by}
use Rattle.vt_model_json.proofs.dump.targets_by_name.Given as goal

-- what is in, with what the rest gives, is what the whole gives
abbrev pub invariant-loop-r : goal.invariant-loop-r
invariant-loop-r l = members_by l.store.meta l.store.model (links_of l.store.model l.owner) (entry_members (λ k. k.now) (λ os. names_data l.store.model os.now) l.targets.entries) (drop l.r-index l.references)
    ≡ members_by l.store.meta l.store.model (links_of l.store.model l.owner) no_members l.references
