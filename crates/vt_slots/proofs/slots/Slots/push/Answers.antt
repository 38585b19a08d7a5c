use Rattle.std.proofs.Common.{◌≡◌, ◌<◌, [], ◌∷◌, ◌++◌, All, cond, false, nat_eq, None, Some, sym, ap, subst, subst₂, ◌∙◌}
use Rattle.std.specs.Cmp.Lexicographic.{pointwise}
use Rattle.std.specs.List.{list_any}
use Rattle.vt_slots.specs.Slots.{slot_named}
use Rattle.vt_slots.specs.declared.slot.Slot.{Slot}
use Rattle.vt_slots.proofs.SlotsLemmas.{AreKept, kept_pushed, name_is_new_key}
use Rattle.vt_slots.proofs.slots.Slots.push.Goals as goal

-- the name is new, so it goes behind the others, as the slot does
pub invariant_of-self-2 : goal.invariant_of-self-2
invariant_of-self-2 c =
    let slots = c.self.inside.slots.items in
    let names = c.self.inside.names.keys in
    let slot : Slot = record { number = c.args.number; name = c.args.name; class = c.args.class; body = Some c.args.body } in
    let fresh = subst (λ all. slot_named all c.args.name ≡ None) (sym c.self.view_is) c.requires.fresh in
    let lower = subst (All (λ (s : Slot). s.number.0 < c.args.number.0)) (sym c.self.view_is) c.requires.above in
    let absent : list_any (pointwise nat_eq c.share.result) names ≡ false =
    ap (λ name. list_any (pointwise nat_eq name) names) c.share.ensures
    ∙ ap (list_any (pointwise nat_eq c.args.name)) c.self.invariant.2
    ∙ name_is_new_key slots c.args.name fresh in
    let named = c.in_ok-insert.ensures.keys ∙ ap (λ there. cond there names (names ++ c.share.result ∷ [])) absent ∙ ap (λ name. names ++ name ∷ []) c.share.ensures in
    let pushed = c.in_ok-push.ensures.items ∙ ap (λ all. all ++ slot ∷ []) c.in_ok-reserve.ensures.items in
    subst₂ AreKept (sym pushed) (sym named) (kept_pushed slots slot names lower fresh c.self.invariant)
