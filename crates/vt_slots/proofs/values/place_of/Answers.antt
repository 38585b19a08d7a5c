use Rattle.std.proofs.Common.{rules}
use Rattle.std.proofs.lemmas.List.Sorted.{answers_always}
use Rattle.vt_slots.proofs.PlaceLemmas.{placed}
use Rattle.vt_slots.proofs.values.place_of.Goals as goal

pub returns : goal.returns
returns c =
    let facts = c.binary_search_by_key.ensures in
    let by_key = facts.position (λ held. held.attribute.0) (answers_always _ _ _ (λ f a r g called. search rules)) in
    placed (λ held. held.attribute.0) c.args.places.now c.args.a.0 c.binary_search_by_key.result c.requires facts.bound by_key
