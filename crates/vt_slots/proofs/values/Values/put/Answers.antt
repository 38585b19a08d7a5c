use Rattle.std.proofs.Common.{sym, ap, subst, ◌∙◌, get_or, set}
use Rattle.vt_slots.specs.Values.{AttributesRise, HasPlace, value_in, with_held}
use Rattle.vt_slots.specs.Inside.Place.{StandsAt}
use Rattle.vt_slots.proofs.ValuesLemmas.{number_of, value_in_stands, with_held_stands, rise_with_value, no_place}
use Rattle.vt_slots.proofs.values.Values.put.Goals as goal

pub invariant_of-self : goal.invariant_of-self
invariant_of-self c =
    let written = ap (λ held. set c.self.inside.places.items c.in-Ok.i (record held { value = c.replace.new.dest })) c.index_mut.ensures.value in
    subst AttributesRise (sym written) (rise_with_value _ c.in-Ok.i c.index_mut.result.now c.replace.new.dest c.self.invariant)

pub returns-in-Ok-clause-taken : goal.returns-in-Ok-clause-taken
returns-in-Ok-clause-taken c =
    let there = subst (λ places. StandsAt number_of c.args.a.0 places c.in-Ok.i) c.as_slice.ensures.value c.in-Ok.ensures in
    c.replace.ensures.value ∙ ap (λ held. held.value) c.index_mut.ensures.value
    ∙ sym (value_in_stands _ c.args.a c.in-Ok.i c.index_mut.result.now there)
    ∙ ap (λ places. value_in places c.args.a) c.self.view_is

pub returns-in-Ok-clause-put : goal.returns-in-Ok-clause-put
returns-in-Ok-clause-put c =
    let there = subst (λ places. StandsAt number_of c.args.a.0 places c.in-Ok.i) c.as_slice.ensures.value c.in-Ok.ensures in
    ap (λ held. set c.self.inside.places.items c.in-Ok.i (record held { value = c.replace.new.dest })) c.index_mut.ensures.value
    ∙ ap (λ value. set c.self.inside.places.items c.in-Ok.i (record (get_or c.self.inside.places.items c.in-Ok.i c.index_mut.result.now) { value = value })) c.replace.ensures.after
    ∙ sym (with_held_stands _ c.args.a c.in-Ok.i c.index_mut.result.now c.args.value there)
    ∙ ap (λ places. with_held places c.args.a c.args.value) c.self.view_is

pub returns-in-Err-clause-taken : goal.returns-in-Err-clause-taken
returns-in-Err-clause-taken c = absurd (no_place _ c.args.a c.in-Err.field-0 c.in-Err.ensures (subst (λ places. HasPlace places c.args.a) (sym c.self.view_is ∙ sym c.as_slice.ensures.value) c.requires.there))

pub returns-in-Err-clause-put : goal.returns-in-Err-clause-put
returns-in-Err-clause-put c = absurd (no_place _ c.args.a c.in-Err.field-0 c.in-Err.ensures (subst (λ places. HasPlace places c.args.a) (sym c.self.view_is ∙ sym c.as_slice.ensures.value) c.requires.there))
