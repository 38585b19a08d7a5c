use Rattle.std.proofs.Common.{◌≡◌, ◌++◌, drop, map}
use Rattle.vt_model_json.specs.Loading.{assignment}
use Rattle.vt_model_json.proofs.loading.add_entries.Given as goal

-- what is out, and what the rest gives, is what the whole gives
abbrev pub invariant-loop-attribute : goal.invariant-loop-attribute
invariant-loop-attribute l = l.changes ++ map (λ e. assignment l.name e.0 e.1.given) (drop l.attribute-index l.entries) ≡ l.fn.changes ++ map (λ e. assignment l.name e.0 e.1.given) l.entries
