use Rattle.std.proofs.Common.{◌≡◌, map, slice_get, nat_eq, position, option_and_then, sym, ap, ◌∙◌, Some, None}
use Rattle.std.specs.Cmp.Lexicographic.{pointwise}
use Rattle.vt_slots.proofs.SlotsLemmas.{named_at_place}
use Rattle.vt_slots.proofs.slots.Slots.named.Goals as goal

pub returns-in-Some : goal.returns-in-Some
returns-in-Some c =
    let got = c.slot_in.ensures ∙ ap (λ slots. slice_get slots c.in-Some.i) (c.as_slice.ensures.value ∙ c.self.view_is) in
    let place : position (pointwise nat_eq c.args.name.now) (map (λ s. s.name) c.args.self.now) ≡ Some c.in-Some.i =
    ap (λ slots. position (pointwise nat_eq c.args.name.now) (map (λ s. s.name) slots)) (sym c.self.view_is)
    ∙ ap (position (pointwise nat_eq c.args.name.now)) (sym c.self.invariant.2) ∙ sym c.in-Some.ensures.index in
    got ∙ ap (option_and_then (slice_get c.args.self.now)) (sym place) ∙ named_at_place c.args.self.now c.args.name.now

pub returns-in-None : goal.returns-in-None
returns-in-None c =
    let place : position (pointwise nat_eq c.args.name.now) (map (λ s. s.name) c.args.self.now) ≡ None =
    ap (λ slots. position (pointwise nat_eq c.args.name.now) (map (λ s. s.name) slots)) (sym c.self.view_is)
    ∙ ap (position (pointwise nat_eq c.args.name.now)) (sym c.self.invariant.2) ∙ sym c.in-None.ensures.index in
    ap (option_and_then (slice_get c.args.self.now)) (sym place) ∙ named_at_place c.args.self.now c.args.name.now
