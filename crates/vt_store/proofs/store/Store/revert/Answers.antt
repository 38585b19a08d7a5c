use Rattle.std.proofs.Common.{sym, subst}
use Rattle.vt_store.specs.Undoing.{Fits}
use Rattle.vt_store.proofs.StoreLemmas.{valid_reverted}
use Rattle.vt_store.proofs.store.Store.revert.Goals as goal

-- the model without the edit is valid
pub invariant_of-self : goal.invariant_of-self
invariant_of-self c =
    valid_reverted c.self.inside.graph c.revert.new.graph c.args.edit c.self.invariant (subst (Fits c.args.edit) (sym c.self.view_is) c.requires.fits) c.revert.ensures.meta c.revert.ensures.made
