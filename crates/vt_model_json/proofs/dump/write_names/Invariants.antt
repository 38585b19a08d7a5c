use Rattle.std.proofs.Common.{◌≡◌, ◌++◌, drop}
use Rattle.json.specs.Tree.{items_tokens}
use Rattle.serde_json.specs.Written.{items_outline}
use Rattle.vt_model_json.specs.Dump.{texts}
use Rattle.vt_model_json.specs.Inside.Shown.{shown_names}
use Rattle.vt_model_json.proofs.dump.write_names.Given as goal

-- what is out, before what the rest gives, is what the whole gives
abbrev pub invariant-loop-number : goal.invariant-loop-number
invariant-loop-number l = (l.out.before ≡ l.fn.out.before)
    × (l.out.tokens ++ items_tokens (items_outline (texts (shown_names l.store.model (drop l.number-index l.objects))))
    ≡ l.fn.out.tokens ++ items_tokens (items_outline (texts (shown_names l.store.model l.objects))))
