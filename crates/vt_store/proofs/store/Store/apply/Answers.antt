use Rattle.vt_store.proofs.MakesLemmas.{valid_still, makes_seen}
use Rattle.vt_store.proofs.store.Store.apply.Goals as goal

-- the graph does what the store is to do
pub invariant_of-self : goal.invariant_of-self
invariant_of-self c = valid_still _ _ _ _ c.gives_storable.ensures c.make.ensures c.self.invariant

pub returns : goal.returns
returns c = makes_seen _ _ _ _ _ c.self.view_is c.make.ensures
