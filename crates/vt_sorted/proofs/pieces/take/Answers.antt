use Rattle.std.proofs.Common.{◌≡◌, ◌+◌, ◌≤◌, [], get_or, set, sym, ap, subst, ◌∙◌, arith, vec_len}
use Rattle.std.specs.List.{remove}
use Rattle.std.proofs.lemmas.List.Edits.{length-remove}
use Rattle.vt_sorted.specs.Inside.Pieces.{joined, room, IsFilled, IsMergePlace, merged}
use Rattle.vt_sorted.proofs.PieceLemmas.{joined-merged, room-taken, room-taken_merged, filled-merged}
use Rattle.vt_sorted.proofs.pieces.take.Goals as goal

pub returns-in-Some-clause-items : goal.returns-in-Some-clause-items
returns-in-Some-clause-items g c =
    let old = c.args.chunks.now.items in
    let less = set old c.args.j (remove (get_or old c.args.j []) c.args.at) in
    let p : IsMergePlace less c.args.j c.in-Some.k = subst (λ cs. IsMergePlace cs c.args.j c.in-Some.k) (c.as_slice.ensures ∙ c.take_at.ensures.items) c.in-Some.ensures.place in
    ap joined c.merge.ensures.items ∙ ap (λ cs. joined (merged cs c.in-Some.k)) c.take_at.ensures.items ∙ joined-merged less c.in-Some.k p.in_range

pub returns-in-Some-clause-room : goal.returns-in-Some-clause-room
returns-in-Some-clause-room g c =
    let old = c.args.chunks.now.items in
    let f = c.args.chunks.now.spare in
    let chunk = get_or old c.args.j [] in
    let less = set old c.args.j (remove chunk c.args.at) in
    let p : IsMergePlace less c.args.j c.in-Some.k = subst (λ cs. IsMergePlace cs c.args.j c.in-Some.k) (c.as_slice.ensures ∙ c.take_at.ensures.items) c.in-Some.ensures.place in
    let same : c.merge.new.self.items ≡ merged less c.in-Some.k = c.merge.ensures.items ∙ ap (λ cs. merged cs c.in-Some.k) c.take_at.ensures.items in
    subst (λ n. room old f ≤ room c.merge.new.self.items n) (sym (c.merge.ensures.room ∙ ap (λ n. n + 1) c.take_at.ensures.room))
    (subst (λ cs. room old f ≤ room cs (f + 1)) (sym same)
    (room-taken_merged old c.args.j c.in-Some.k f (remove chunk c.args.at) (omega arith) (length-remove chunk c.args.at c.requires.place) p))

pub returns-in-Some-clause-filled : goal.returns-in-Some-clause-filled
returns-in-Some-clause-filled g c =
    λ filled.
    let old = c.args.chunks.now.items in
    let chunk = get_or old c.args.j [] in
    let less = set old c.args.j (remove chunk c.args.at) in
    let p : IsMergePlace less c.args.j c.in-Some.k = subst (λ cs. IsMergePlace cs c.args.j c.in-Some.k) (c.as_slice.ensures ∙ c.take_at.ensures.items) c.in-Some.ensures.place in
    let same : c.merge.new.self.items ≡ merged less c.in-Some.k = c.merge.ensures.items ∙ ap (λ cs. merged cs c.in-Some.k) c.take_at.ensures.items in
    subst IsFilled (sym same) (filled-merged old c.args.j c.in-Some.k (remove chunk c.args.at) filled p)

pub returns-in_default-clause-room : goal.returns-in_default-clause-room
returns-in_default-clause-room g c =
    let old = c.args.chunks.now.items in
    let f = c.args.chunks.now.spare in
    let chunk = get_or old c.args.j [] in
    subst (λ n. room old f ≤ room c.take_at.new.self.items n) (sym c.take_at.ensures.room)
    (subst (λ cs. room old f ≤ room cs f) (sym c.take_at.ensures.items)
    (room-taken old c.args.j f (remove chunk c.args.at) (omega arith) (length-remove chunk c.args.at c.requires.place)))
