use Rattle.std.proofs.Common.{◌≡◌, ◌++◌, ◌<◌, ◌∷◌, ◌+◌, length, drop, sym, ap, ◌∙◌, arith}
use Rattle.std.proofs.lemmas.List.{drop_more, drop_all}
use Rattle.vt_text.specs.Inside.Trees.{beyond}
use Rattle.vt_text.proofs.TreeLemmas.{firsts_goes, firsts_done}
use Rattle.vt_text.proofs.slots.firsts.Goals as goal

-- the next one is kept where it isn't there yet
pub loop-slot-preserved : goal.loop-slot-preserved
loop-slot-preserved c =
    let reads = c.args.reads.now in
    let i = c.loop-slot.slot-index in
    let out = c.loop-slot.slots in
    let s = c.slot-item.result in
    let inside : i < length reads = omega arith in
    let here : drop i reads ≡ s ∷ drop (i + 1) reads = drop_more reads i s inside ∙ ap (λ t. t ∷ drop (i + 1) reads) (sym c.slot-item.is) in
    ap (λ l. l ++ beyond l (drop (i + 1) reads)) c.in_ok-add_first.ensures ∙ firsts_goes out s (drop (i + 1) reads) ∙ ap (λ l. out ++ beyond out l) (sym here) ∙ c.loop-slot.invariant

-- none is to come
pub returns : goal.returns
returns c =
    let out = c.loop-slot.slots in
    sym (firsts_done out) ∙ ap (λ l. out ++ beyond out l) (sym (drop_all c.loop-slot.slot-index c.args.reads.now c.loop-slot-test.false)) ∙ c.loop-slot.invariant
