-- The model afterwards is that of the slots with the value at its place.
use Rattle.std.proofs.Common.{sym, ap, subst, ◌∙◌}
use Rattle.vt_model.specs.Assigning.{with_default_value}
use Rattle.vt_graph.specs.Held.{Held}
use Rattle.vt_graph.specs.Asked.{value_at}
use Rattle.vt_graph.specs.Having.{HasAttribute}
use Rattle.vt_graph.specs.Inside.Stored.{model_of, places_of}
use Rattle.vt_graph.specs.Inside.Planned.{AreListings}
use Rattle.vt_graph.specs.Inside.Indexed.{IsIndexed}
use Rattle.vt_graph.proofs.ValueLemmas.{value_at_indexed}
use Rattle.vt_graph.proofs.StayLemmas.{has_place, model_put, indexed_stays, listings_stay, places_stay}
use Rattle.vt_graph.proofs.graph.Graph.put_value.Goals as goal

pub put_value-requires : goal.put_value-requires
put_value-requires c =
    let g = c.self.inside in
    let had = subst (λ (held : Held). HasAttribute held.meta held.model c.args.o c.args.a) (sym c.self.view_is) c.requires.had in
    record { there = has_place c.args.o c.args.a c.args.value g.slots g.meta g.next c.self.invariant.0 had }

pub invariant_of-self : goal.invariant_of-self
invariant_of-self c =
    let g = c.self.inside in
    let put = sym c.put_value.ensures.put in (
      subst (IsIndexed g.meta g.next) put (indexed_stays c.args.o c.args.a c.args.value g.slots g.meta g.next c.self.invariant.0),
      c.self.invariant.1,
      subst (λ slots. AreListings g.meta slots g.listings.items) put (listings_stay c.args.o c.args.a c.args.value g.slots g.meta g.listings.items c.self.invariant.2),
    )

pub returns-clause-taken : goal.returns-clause-taken
returns-clause-taken c =
    let g = c.self.inside in
    c.put_value.ensures.taken
    ∙ sym (
    ap (λ (held : Held). value_at held.model c.args.o c.args.a) (sym c.self.view_is)
    ∙ value_at_indexed g.meta g.next g.slots c.self.invariant.0 c.args.o c.args.a
    )

pub returns-clause-put : goal.returns-clause-put
returns-clause-put c =
    let g = c.self.inside in
    let had = subst (λ (held : Held). HasAttribute held.meta held.model c.args.o c.args.a) (sym c.self.view_is) c.requires.had in
    ap (model_of g.next) c.put_value.ensures.put
    ∙ model_put c.args.o c.args.a c.args.value g.slots g.meta g.next c.self.invariant.0 (has_place c.args.o c.args.a c.args.value g.slots g.meta g.next c.self.invariant.0 had)
    ∙ ap (λ (held : Held). with_default_value held.model c.args.o c.args.a c.args.value) c.self.view_is

pub returns-clause-places : goal.returns-clause-places
returns-clause-places c =
    let g = c.self.inside in
    ap places_of c.put_value.ensures.put ∙ places_stay c.args.o c.args.a c.args.value g.slots ∙ ap (λ (held : Held). held.places) c.self.view_is
