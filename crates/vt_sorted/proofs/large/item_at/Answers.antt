use Rattle.std.proofs.Common.{◌≡◌, ◌+◌, ◌-◌, ◌<◌, ◌∷◌, length, drop, suc, slice_get, sym, ap, ◌∙◌, add-one, drop-cons, arith}
use Rattle.vt_sorted.specs.Inside.Pieces.{joined}
use Rattle.vt_sorted.proofs.PieceLemmas.{slice_get-left, slice_get-right}
use Rattle.vt_sorted.proofs.large.item_at.Goals as goal

pub returns-then-left-len : goal.returns-then-left-len
returns-then-left-len g c =
    let cs = c.args.chunks.now in
    let k = c.loop-chunk.chunk-index in
    let x = c.chunk-item.result in
    let inside : k < length cs = omega arith in
    let here : drop k cs ≡ x ∷ drop (suc k) cs = drop-cons cs k x inside ∙ ap (λ y. y ∷ drop (suc k) cs) (sym c.chunk-item.is) in
    let lt : c.loop-chunk.left < length x = omega arith in
    c.get.ensures ∙ sym (slice_get-left x (joined (drop (suc k) cs)) c.loop-chunk.left lt) ∙ ap (λ ds. slice_get (joined ds) c.loop-chunk.left) (sym here) ∙ c.loop-chunk.invariant

pub loop-chunk-preserved : goal.loop-chunk-preserved
loop-chunk-preserved g c =
    let cs = c.args.chunks.now in
    let k = c.loop-chunk.chunk-index in
    let x = c.chunk-item.result in
    let left = c.loop-chunk.left in
    let less = left - c.len-left.result in
    let inside : k < length cs = omega arith in
    let here : drop k cs ≡ x ∷ drop (suc k) cs = drop-cons cs k x inside ∙ ap (λ y. y ∷ drop (suc k) cs) (sym c.chunk-item.is) in
    let sum : left ≡ length x + less = omega arith in
    ap (λ m. slice_get (joined (drop m cs)) less) (add-one k) ∙ sym (slice_get-right x (joined (drop (suc k) cs)) left less sum) ∙ ap (λ ds. slice_get (joined ds) left) (sym here) ∙ c.loop-chunk.invariant
