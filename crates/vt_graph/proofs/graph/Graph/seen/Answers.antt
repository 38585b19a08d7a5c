-- What became of a name is what became of the slot with it.
use Rattle.std.proofs.Common.{sym, ap, ◌∙◌}
use Rattle.vt_graph.specs.Held.{Held}
use Rattle.vt_graph.specs.Asked.{seen_of}
use Rattle.vt_graph.proofs.ObjectLemmas.{seen_of_slot, seen_slot, seen_body}
use Rattle.vt_graph.proofs.graph.Graph.seen.Goals as goal

pub returns-in-Some-body : goal.returns-in-Some-body
returns-in-Some-body c =
    let g = c.self.inside in
    sym (
    ap (λ (held : Held). seen_of held.model c.args.name.now) (sym c.self.view_is)
    ∙ seen_of_slot g.next g.slots c.self.invariant.0.names_differ c.args.name.now
    ∙ ap seen_slot (sym c.in-Some.ensures) ∙ ap (seen_body c.in-Some.slot.now) c.in-Some-body.is
    )

pub returns-in-None-body : goal.returns-in-None-body
returns-in-None-body c =
    let g = c.self.inside in
    sym (
    ap (λ (held : Held). seen_of held.model c.args.name.now) (sym c.self.view_is)
    ∙ seen_of_slot g.next g.slots c.self.invariant.0.names_differ c.args.name.now
    ∙ ap seen_slot (sym c.in-Some.ensures) ∙ ap (seen_body c.in-Some.slot.now) c.in-None-body.is
    )

pub returns-in-None : goal.returns-in-None
returns-in-None c =
    let g = c.self.inside in
    sym (
    ap (λ (held : Held). seen_of held.model c.args.name.now) (sym c.self.view_is)
    ∙ seen_of_slot g.next g.slots c.self.invariant.0.names_differ c.args.name.now
    ∙ ap seen_slot (sym c.in-None.ensures)
    )
