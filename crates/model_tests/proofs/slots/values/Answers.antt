use Rattle.std.proofs.Common.{[], ◌∷◌, ◌++◌, None, sym, ap, subst, ◌∙◌}
use Rattle.vt_slots.specs.Values.{AttributesRise}
use Rattle.vt_slots.specs.declared.values.Held.{Held}
use Rattle.vt_slots.proofs.ValuesLemmas.{rise_alone}
use Rattle.model_tests.proofs.slots.values.Goals as goal

pub new-requires : goal.new-requires
new-requires c =
    let held : Held = record { attribute = record { 0 = 5 }; value = None } in
    record { rises = subst AttributesRise (sym (c.in_ok-push.ensures.items ∙ ap (λ places. places ++ held ∷ []) c.new-places.ensures.items)) (rise_alone held) }
