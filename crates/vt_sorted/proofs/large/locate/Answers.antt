use Rattle.std.proofs.Common.{◌≡◌, [], get_or, subst, sym}
use Rattle.std.specs.List.Sorted.{IsStrictlySortedBy}
use Rattle.std.proofs.lemmas.List.{get_or_read}
use Rattle.vt_sorted.specs.Inside.Places.{StandsAt, GoesAt}
use Rattle.vt_sorted.proofs.PlaceLemmas.{piece_ascends, stands_in, goes_in}
use Rattle.vt_sorted.proofs.large.locate.Goals as goal

pub find-requires : goal.find-requires
find-requires g c =
    let R = g.T.Ord.cmp in
    let cs = c.args.chunks.now in
    let j = c.place-j.result in
    let is : c.index-chunks-j.result ≡ get_or cs j [] = get_or_read cs j _ c.place-j.ensures.in_range c.index-chunks-j.is [] in
    subst (IsStrictlySortedBy R) (sym is) (piece_ascends R g.met.T.Ord.total cs j c.requires.ascends c.place-j.ensures.in_range)

pub returns-in-Ok-clause-stands : goal.returns-in-Ok-clause-stands
returns-in-Ok-clause-stands g c =
    let R = g.T.Ord.cmp in
    let cs = c.args.chunks.now in
    let j = c.place-j.result in
    let is : c.index-chunks-j.result ≡ get_or cs j [] = get_or_read cs j _ c.place-j.ensures.in_range c.index-chunks-j.is [] in
    stands_in R g.met.T.Ord.total cs (g.K.Like.stands_for c.args.key.now) j c.in-Ok.at c.requires.ascends c.place-j.ensures
    (subst (λ x. StandsAt R x (g.K.Like.stands_for c.args.key.now) c.in-Ok.at) is c.in-Ok.ensures.stands)

pub returns-in-Err-clause-absent : goal.returns-in-Err-clause-absent
returns-in-Err-clause-absent g c =
    let R = g.T.Ord.cmp in
    let cs = c.args.chunks.now in
    let j = c.place-j.result in
    let is : c.index-chunks-j.result ≡ get_or cs j [] = get_or_read cs j _ c.place-j.ensures.in_range c.index-chunks-j.is [] in
    goes_in R g.met.T.Ord.total cs (g.K.Like.stands_for c.args.key.now) j c.in-Err.at c.requires.ascends c.place-j.ensures
    (subst (λ x. GoesAt R x (g.K.Like.stands_for c.args.key.now) c.in-Err.at) is c.in-Err.ensures.absent)
