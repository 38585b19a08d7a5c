-- The name of an object is that of its slot.
use Rattle.std.proofs.Common.{sym, ap, ◌∙◌, option_map}
use Rattle.std.specs.Option.{option_copied}
use Rattle.vt_slots.specs.declared.slot.Slot.{Slot}
use Rattle.vt_graph.specs.Held.{Held}
use Rattle.vt_graph.specs.Asked.{name_at}
use Rattle.vt_graph.proofs.ObjectLemmas.{name_at_slot}
use Rattle.vt_graph.proofs.graph.Graph.name_of.Goals as goal

pub returns : goal.returns
returns c =
    let g = c.self.inside in
    sym (
    ap (λ (held : Held). name_at held.model c.args.o) (sym c.self.view_is)
    ∙ name_at_slot g.next g.slots c.self.invariant.0.numbers_rise c.args.o
    ∙ ap (option_map (λ (s : Slot). s.name)) (sym c.in_ok-slot.ensures)
    )

pub returns-in_err-slot : goal.returns-in_err-slot
returns-in_err-slot c =
    let g = c.self.inside in
    ap option_copied c.from_residual.ensures
    ∙ sym (
    ap (λ (held : Held). name_at held.model c.args.o) (sym c.self.view_is)
    ∙ name_at_slot g.next g.slots c.self.invariant.0.numbers_rise c.args.o
    ∙ ap (option_map (λ (s : Slot). s.name)) (sym c.in_err-slot.ensures)
    )
