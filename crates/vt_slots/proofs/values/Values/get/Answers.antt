use Rattle.std.proofs.Common.{sym, ap, subst, ◌∙◌}
use Rattle.vt_slots.specs.Values.{value_in}
use Rattle.vt_slots.specs.Inside.Place.{StandsAt}
use Rattle.vt_slots.proofs.ValuesLemmas.{value_in_stands}
use Rattle.vt_slots.proofs.values.Values.get.Goals as goal

pub returns-in-Ok : goal.returns-in-Ok
returns-in-Ok c =
    c.as_ref.ensures.value ∙ ap (λ held. held.value) c.index.ensures
    ∙ sym (value_in_stands _ c.args.a c.in-Ok.i c.index.result.now (subst (λ places. StandsAt (λ held. held.attribute.0) c.args.a.0 places c.in-Ok.i) c.as_slice.ensures.value c.in-Ok.ensures))
    ∙ ap (λ places. value_in places c.args.a) c.self.view_is
