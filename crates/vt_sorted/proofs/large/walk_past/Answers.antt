use Rattle.std.proofs.Common.{◌≡◌, [], get_or, subst, sym, ◌∙◌}
use Rattle.std.specs.List.Sorted.{IsStrictlySortedBy}
use Rattle.std.proofs.lemmas.List.{get_or_read}
use Rattle.vt_sorted.specs.Inside.Places.{EndsAt}
use Rattle.vt_sorted.proofs.PlaceLemmas.{piece_ascends}
use Rattle.vt_sorted.proofs.FrontLemmas.{items_after-place}
use Rattle.vt_sorted.proofs.large.walk_past.Goals as goal

pub end_of-at-requires : goal.end_of-at-requires
end_of-at-requires g c =
    let R = g.T.Ord.cmp in
    let cs = c.args.chunks.now in
    let j = c.end_place-j.result in
    let is : c.index-chunks-j.result ≡ get_or cs j [] = get_or_read cs j _ c.end_place-j.ensures.in_range c.index-chunks-j.is [] in
    subst (IsStrictlySortedBy R) (sym is) (piece_ascends R g.met.T.Ord.total cs j c.requires.ascends c.end_place-j.ensures.in_range)

pub returns : goal.returns
returns g c =
    let test = g.F.Front.holds c.args.front.now in
    let cs = c.args.chunks.now in
    let j = c.end_place-j.result in
    let at = c.end_of-at.result in
    let is : c.index-chunks-j.result ≡ get_or cs j [] = get_or_read cs j _ c.end_place-j.ensures.in_range c.index-chunks-j.is [] in
    c.walk_at.ensures ∙ sym (items_after-place test cs j at c.end_place-j.ensures (subst (λ x. EndsAt test x at) is c.end_of-at.ensures))
