use Rattle.std.proofs.Common.{◌≡◌, ◌++◌}
use Rattle.json.specs.Tree.{members_tokens}
use Rattle.serde_json.specs.Written.{members_outline}
use Rattle.vt_model_json.specs.Inside.Entries.{entry_members, names_data}
use Rattle.vt_model_json.proofs.dump.write_targets.Given as goal

-- what is out, before what the entries that are left give, is what all give
abbrev pub invariant-loop-name : goal.invariant-loop-name
invariant-loop-name l =
    (goal.iterator-loop-name).can_next l.name-iterator ×
    (goal.iterator-loop-name).is_finite l.name-iterator ×
    (l.out.before ≡ l.fn.out.before) ×
    (l.out.tokens ++ members_tokens (members_outline (entry_members (λ k. k.now) (λ os. names_data l.store.model os.now) l.name-iterator))
    ≡ l.fn.out.tokens ++ members_tokens (members_outline (entry_members (λ k. k.now) (λ os. names_data l.store.model os.now) l.targets.entries)))
