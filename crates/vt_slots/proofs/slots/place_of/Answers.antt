use Rattle.std.proofs.Common.{rules}
use Rattle.std.proofs.lemmas.List.Sorted.{answers_always}
use Rattle.vt_slots.proofs.PlaceLemmas.{placed}
use Rattle.vt_slots.proofs.SlotsLemmas.{slot_number}
use Rattle.vt_slots.proofs.slots.place_of.Goals as goal

pub returns : goal.returns
returns c =
    let facts = c.binary_search_by_key.ensures in
    let by_key = facts.position slot_number (answers_always _ _ _ (λ f a r g called. search rules)) in
    placed slot_number c.args.slots.now c.args.o.0 c.binary_search_by_key.result c.requires facts.bound by_key
