use Rattle.std.proofs.Common.{◌≡◌, ◌++◌}
use Rattle.json.specs.Tree.{items_tokens}
use Rattle.serde_json.specs.Written.{items_outline}
use Rattle.vt_model_json.specs.Dump.{objects_data}
use Rattle.vt_model_json.proofs.Dumped.Objects.{items_from}
use Rattle.vt_model_json.proofs.dump.write_objects.Given as goal

-- what is out, before what the objects from the number on give, is what all give
abbrev pub invariant-loop-number : goal.invariant-loop-number
invariant-loop-number l = (l.number-end ≡ l.store.model.next)
    × (l.out.before ≡ l.fn.out.before)
    × (l.out.tokens ++ items_tokens (items_outline (items_from l.store.meta l.store.model l.number))
    ≡ l.fn.out.tokens ++ items_tokens (items_outline (objects_data l.store.meta l.store.model l.store.model.live)))
