use Rattle.std.proofs.Common.{◌≡◌, ◌++◌}
use Rattle.json.specs.Tree.{members_tokens}
use Rattle.serde_json.specs.Written.{members_outline}
use Rattle.vt_model_json.specs.Dump.{value_data}
use Rattle.vt_model_json.specs.Inside.Entries.{entry_members}
use Rattle.vt_model_json.proofs.dump.write_values.Given as goal

-- what is out, before what the entries that are left give, is what all give
abbrev pub invariant-loop-name : goal.invariant-loop-name
invariant-loop-name l =
    (goal.iterator-loop-name).can_next l.name-iterator ×
    (goal.iterator-loop-name).is_finite l.name-iterator ×
    (l.out.before ≡ l.fn.out.before) ×
    (l.out.tokens ++ members_tokens (members_outline (entry_members (λ k. k.now) (λ v. value_data l.meta v.now) l.name-iterator))
    ≡ l.fn.out.tokens ++ members_tokens (members_outline (entry_members (λ k. k.now) (λ v. value_data l.meta v.now) l.values.entries)))
