-- The class of an object is that of its slot, where that has a body.
use Rattle.std.proofs.Common.{sym, ap, ◌∙◌, option_map, option_and_then}
use Rattle.vt_slots.specs.declared.slot.Slot.{Slot}
use Rattle.vt_slots.specs.declared.slot.Body.{Body}
use Rattle.vt_graph.specs.Held.{Held}
use Rattle.vt_graph.specs.Asked.{class_at}
use Rattle.vt_graph.proofs.ObjectLemmas.{class_at_slot}
use Rattle.vt_graph.proofs.graph.Graph.class_of.Goals as goal

pub returns-in-Some : goal.returns-in-Some
returns-in-Some c =
    let g = c.self.inside in
    sym (
    ap (λ (held : Held). class_at held.model c.args.o) (sym c.self.view_is)
    ∙ class_at_slot g.next g.slots c.self.invariant.0.numbers_rise c.args.o
    ∙ ap (option_and_then (λ (s : Slot). option_map (λ (body : Body). s.class) s.body)) (sym c.in_ok-slot.ensures)
    ∙ ap (option_map (λ (body : Body). c.in_ok-slot.slot.now.class)) c.in-Some.is
    )

pub returns-in-None : goal.returns-in-None
returns-in-None c =
    let g = c.self.inside in
    sym (
    ap (λ (held : Held). class_at held.model c.args.o) (sym c.self.view_is)
    ∙ class_at_slot g.next g.slots c.self.invariant.0.numbers_rise c.args.o
    ∙ ap (option_and_then (λ (s : Slot). option_map (λ (body : Body). s.class) s.body)) (sym c.in_ok-slot.ensures)
    ∙ ap (option_map (λ (body : Body). c.in_ok-slot.slot.now.class)) c.in-None.is
    )

pub returns-in_err-slot : goal.returns-in_err-slot
returns-in_err-slot c =
    let g = c.self.inside in
    c.from_residual.ensures
    ∙ sym (
    ap (λ (held : Held). class_at held.model c.args.o) (sym c.self.view_is)
    ∙ class_at_slot g.next g.slots c.self.invariant.0.numbers_rise c.args.o
    ∙ ap (option_and_then (λ (s : Slot). option_map (λ (body : Body). s.class) s.body)) (sym c.in_err-slot.ensures)
    )
