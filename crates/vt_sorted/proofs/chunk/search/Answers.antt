use Rattle.std.proofs.Common.{rules}
use Rattle.std.proofs.lemmas.Fn.{always_returns_same}
use Rattle.vt_sorted.proofs.SearchLemmas.{stands_at, goes_at}
use Rattle.vt_sorted.proofs.chunk.search.Goals as goal

-- what the key says of an item, turned round, is what the item says of the key's
pub returns-clause-stands : goal.returns-clause-stands
returns-clause-stands g c =
    let R = g.T.Ord.cmp in
    let q = g.K.Like.stands_for c.args.key.now in
    let found = c.binary_search_by.ensures.position (λ x. R x q) (always_returns_same _ _ _ (λ a r f h. search (rules, g.met.T.Ord.total.antisymm))) in
    stands_at R g.met.T.Ord.total _ _ _ c.requires c.binary_search_by.ensures.bound found

pub returns-clause-absent : goal.returns-clause-absent
returns-clause-absent g c =
    let R = g.T.Ord.cmp in
    let q = g.K.Like.stands_for c.args.key.now in
    let found = c.binary_search_by.ensures.position (λ x. R x q) (always_returns_same _ _ _ (λ a r f h. search (rules, g.met.T.Ord.total.antisymm))) in
    goes_at R g.met.T.Ord.total _ _ _ c.requires c.binary_search_by.ensures.bound found
